-- Files in memory, as contracts see them, and what reading one does to them.
use Rattle.std.specs.Prelude.{◌≡◌, ◌≢◌, ℕ, ◌+◌, List, All, AllPairs, Some, None, length, set, replicate, map, Bool, ◌==◌, ◌||◌, Option, option_map, is_none, slice_get, slice_index, bytes_eq, String, string_bytes, Vec}
use Rattle.std.specs.List.{list_any, position_or_len}
use Rattle.std.specs.declared.alloc.Global.{Global}
use Rattle.wire.specs.Causes.{one_more}
use Rattle.wire.specs.Contents.{AtFiles}

-- the files, each a name and its bytes, the numbers of the reads that fail (the first is 1), how
-- many reads there were, and the fault counts: one for each file, and a last one for all other
-- names
pub record FilesInMemory : Type 0 where
  pub files : List (List ℕ × List ℕ)
  pub fails : List ℕ
  pub calls : ℕ
  pub faults : List ℕ

-- the name and the bytes of each file
abbrev pub named_bytes : List (String Global × Vec ℕ Global) → List (List ℕ × List ℕ)
named_bytes files = map (λ file. (string_bytes file.0, file.1.items)) files

-- the index of a name among the files, or their number if no file has it
abbrev pub place_of : List (List ℕ × List ℕ) → List ℕ → ℕ
place_of files name = position_or_len (λ file. bytes_eq file.0 name) files

-- the bytes of the file of this name, if there is one
abbrev pub content_of : List (List ℕ × List ℕ) → List ℕ → Option (List ℕ)
content_of files name = option_map (λ file. file.1) (slice_get files (place_of files name))

-- how often reading this name has failed, or, if no file has it, reading any such name
abbrev pub faults_of : FilesInMemory → List ℕ → ℕ
faults_of memory name = slice_index memory.faults (place_of memory.files name)

-- no two files have the same name
abbrev pub NamesDiffer : List (String Global × Vec ℕ Global) → Type 0
NamesDiffer files = AllPairs (λ one other. string_bytes one.0 ≢ string_bytes other.0) files

-- the bytes of each of these files are told
abbrev pub TellsEach : FilesInMemory → List (String Global × Vec ℕ Global) → Type 0
TellsEach memory files =
    All (λ file. content_of memory.files (string_bytes file.0) ≡ Some file.1.items) files

-- nothing is told of any other name
abbrev pub TellsNoOther : FilesInMemory → List (String Global × Vec ℕ Global) → Type 0
TellsNoOther memory files = (name : List ℕ)
    → All (λ file. string_bytes file.0 ≢ name) files → content_of memory.files name ≡ None

-- no read has failed at any name
abbrev pub HasNoFault : FilesInMemory → Type 0
HasNoFault memory = (name : List ℕ) → faults_of memory name ≡ 0

-- files that have not been read yet
abbrev pub new_files : List (List ℕ × List ℕ) → List ℕ → FilesInMemory
new_files files fails = record {
  files = files;
  fails = fails;
  calls = 0;
  faults = replicate (length files + 1) 0;
}

-- whether the next read of this name fails: it is planned to fail, or no file has the name
abbrev pub read_fails : FilesInMemory → List ℕ → Bool
read_fails memory name =
    list_any (λ call. call == one_more memory.calls) memory.fails
    || is_none (content_of memory.files name)

-- the files after a read that does not fail
abbrev pub with_read : FilesInMemory → FilesInMemory
with_read memory = record memory { calls = one_more memory.calls }

-- the files after a read of this name that fails: only the count of this name rose
abbrev pub with_fault_at : FilesInMemory → List ℕ → FilesInMemory
with_fault_at memory name = record memory {
  calls = one_more memory.calls;
  faults = set memory.faults (place_of memory.files name) (one_more (faults_of memory name));
}

-- files in memory tell everything
abbrev pub files_told : FilesInMemory → AtFiles
files_told memory =
    record { content = content_of memory.files; faults = faults_of memory }
