-- The real edges, as contracts see them: a std device, how often it failed, and why.
use Rattle.std.specs.Prelude.{◌≡◌, ◌≢◌, ℕ, Option, None, Some}
use Rattle.std.specs.declared.io.ErrorKind.{ErrorKind}
use Rattle.std.specs.declared.io.ErrorKind.TheVariants as kind
use Rattle.wire.specs.Causes.{one_more}
use Rattle.wire.specs.declared.reader_files.ReadError.{ReadError}
use Rattle.wire.specs.declared.reader_files.ReadError.TheVariants as error

-- a sink over a writer: the writer, and how many puts failed
pub record SinkOver (W : Type 0) : Type 0 where
  pub writer : W
  pub faults : ℕ

-- a writer that has not failed yet
abbrev pub new_sink_over : {W : Type 0} → W → SinkOver W
new_sink_over writer = record { writer = writer; faults = 0 }

-- a link over a reader and a writer: the reader, how many recvs failed, and the sink over the writer
pub record LinkOver (I O : Type 0) : Type 0 where
  pub input : I
  pub faults : ℕ
  pub output : SinkOver O

-- a link on which nothing has failed yet
abbrev pub new_link_over : {I O : Type 0} → I → O → LinkOver I O
new_link_over input output =
    record { input = input; faults = 0; output = new_sink_over output }

-- files over their opener: the opener, how many reads failed, and why the last read failed, if it
-- did
pub record FilesOver (O : Type 0) : Type 0 where
  pub opener : O
  pub faults : ℕ
  pub reason : Option ErrorKind

-- files of which none has been read yet
abbrev pub new_files_over : {O : Type 0} → O → FilesOver O
new_files_over opener = record { opener = opener; faults = 0; reason = None }

-- the files after a read that does not fail
abbrev pub with_read_over : {O : Type 0} → FilesOver O → FilesOver O
with_read_over files = record files { reason = None }

-- the files after a read that fails with an error of this kind
abbrev pub with_fault_over : {O : Type 0} → FilesOver O → ErrorKind → FilesOver O
with_fault_over files why = record files { faults = one_more files.faults; reason = Some why }

-- a fault has a kind of error, which is not "out of memory"
abbrev pub FailsByError : {O : Type 0} → FilesOver O → FilesOver O → Type 0
FailsByError old new =
    (why : ErrorKind) × (why ≢ kind.OutOfMemory) × (new ≡ with_fault_over old why)

-- what an error of this kind means for a read: out of memory, or else a fault
abbrev pub IsReasonOf : ErrorKind → ReadError → Type 0
IsReasonOf why (error.Fault told) = (told ≡ why) × (why ≢ kind.OutOfMemory)
IsReasonOf why error.TooLong = ⊥
IsReasonOf why error.NoMemory = why ≡ kind.OutOfMemory

-- running out of memory is not told as a fault
abbrev pub IsHonest : ReadError → Type 0
IsHonest (error.Fault told) = told ≢ kind.OutOfMemory
IsHonest _ = Unit {0}
