-- What known sets and words tell, as they are read.
use Rattle.std.proofs.Common.{◌≡◌, ℕ, ◌/◌, ◌%◌, ◌<◌, ◌≤◌, List, length, map, get_or, bit_and, arith, ap, subst, sym, ◌∙◌}
use Rattle.std.proofs.lemmas.List.{get_or-map, length-map}
use Rattle.std.proofs.lemmas.List.Elements.{All-get_or}
use Rattle.run_pack.specs.Sets.{Has}
use Rattle.run_pack.specs.Runs.{move_at, run_of_word, no_run}
use Rattle.run_pack.proofs.SetLemmas.{Has-and, Has-all}
use Rattle.run_pack.proofs.RowLemmas.{border_past, get_or-starts_of}
use Rattle.row_edit.specs.declared.PlaceSet.{PlaceSet}
use Rattle.row_edit.specs.Edits.{IsSetOf}
use Rattle.row_edit.specs.Parts.{HoldsCommon, border_of}

pub shared_none : (known : List PlaceSet) (from upto : ℕ) → HoldsCommon known from upto 255
shared_none known from upto sets all move common = Has-all move common.number

-- with the set of a place from `from` to before `upto`
pub shared_more : (known : List PlaceSet) (from upto set i : ℕ) (d : PlaceSet) → HoldsCommon known from upto set → i < length known
    → from ≤ (get_or known i d).place → (get_or known i d).place < upto → HoldsCommon known from upto (bit_and set (get_or known i d).set)
shared_more known from upto set i d before inside a b sets all move common =
    let its : IsSetOf sets (get_or known i d) = All-get_or (λ it. IsSetOf sets it) known i d inside all in
    Has-and set (get_or known i d).set move (before sets all move common)
    (subst (λ there. Has there move) its.is (common.everywhere (get_or known i d).place a b))

pub border_read : (words : List ℕ) (places number word : ℕ) → number < length words → word ≡ get_or words number word → word / 8 ≡ border_of words places number
border_read words places number word inside read =
    let runs = map run_of_word words in
    let size = length-map words run_of_word in
    let start = get_or-starts_of runs number places (omega arith) in
    let run = get_or-map run_of_word words number word no_run inside in
    ap (λ w. w / 8) read ∙ sym (start ∙ ap (λ r. r.start) run)

-- behind the last run
pub border_behind : (words : List ℕ) (places number : ℕ) → length words ≤ number → border_of words places number ≡ places
border_behind words places number past =
    border_past (map run_of_word words) places number (omega (arith, length-map words run_of_word))

pub move_read : (words : List ℕ) (number word : ℕ) → number < length words → word ≡ get_or words number word → word % 8 ≡ move_at (map run_of_word words) number
move_read words number word inside read =
    let run = get_or-map run_of_word words number word no_run inside in
    ap (λ w. w % 8) read ∙ sym (ap (λ r. r.mv) run)
