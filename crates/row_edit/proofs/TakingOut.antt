-- The parts of the row without a place.
use Rattle.std.proofs.Common.{◌≡◌, ℕ, ◌+◌, ◌-◌, ◌^◌, ◌<◌, ◌≤◌, List, [], ◌∷◌, length, map, drop, get_or, slice_index, remove, None, arith, inl, inr, subst, sym, ◌∙◌}
use Rattle.std.proofs.lemmas.List.{length-map}
use Rattle.std.proofs.lemmas.List.Elements.{All-head, All-tail}
use Rattle.run_pack.specs.declared.Run.{Run}
use Rattle.run_pack.specs.Sets.{Has, IsCommon}
use Rattle.run_pack.specs.Runs.{start_at, end_at, move_at, run_of_word, IsTight, IsPacked}
use Rattle.run_pack.proofs.RowLemmas.{border, border-le, get_or-starts_of}
use Rattle.run_pack.proofs.Fewest.{IsPacked-from_tight, IsCommon-part}
use Rattle.row_edit.specs.declared.PlaceSet.{PlaceSet}
use Rattle.row_edit.specs.declared.span.Span.{Span}
use Rattle.row_edit.specs.Edits.{IsSetOf, AreKnown, IsKnownRow}
use Rattle.row_edit.specs.Parts.{Spans, StaysCut, StaysWhole, AreWithout, joined, raised, one_less}
use Rattle.row_edit.proofs.TightRuns.{IsTightRun, tight_run}
use Rattle.row_edit.proofs.Shorter.{IsShorter, shorter-remove, common_same, common_forth, common_more}
use Rattle.row_edit.proofs.Moved.{IsCutAt, earlier, run_without}
use Rattle.row_edit.proofs.Rows.{runs_stay_without, run_goes}
use Rattle.row_edit.proofs.RaisedWords.{runs-earlier, runs-joined, sinking}

-- ---- a row, and a run of it

module _ (words : List ℕ) (places : ℕ) (out : PlaceSet) (known : List PlaceSet) (span : Span) (spans : Spans words places out.place span)
    (sets : List ℕ) (row : IsKnownRow words places (out ∷ known) sets) where
  abbrev runs : List Run
  runs = map run_of_word words

  abbrev shorter : List ℕ
  shorter = remove sets out.place

  its : IsSetOf sets out
  its = All-head (λ one. IsSetOf sets one) out known row.agree

  others : AreKnown known sets
  others = All-tail (λ one. IsSetOf sets one) out known row.agree

  short : IsShorter sets shorter out.place
  short = shorter-remove sets out.place its.inside

  tight : IsTight runs sets
  tight = row.packed.tight

  inside : span.number < length runs
  inside = omega (arith, length-map words run_of_word, spans.is.within)

  start_is : start_at runs span.number ≡ span.start
  start_is = sym (spans.is.start ∙ get_or-starts_of runs span.number places inside)

  end_is : end_at runs (length sets) span.number ≡ span.end
  end_is = rw row.count (sym spans.is.end)

  before_is : 0 < span.number → start_at runs (span.number - 1) ≡ span.before
  before_is some = sym (spans.is.before ∙ get_or-starts_of runs (span.number - 1) places (omega (arith, inside)))

  its_has : (move : ℕ) → Has out.set move → Has (slice_index sets out.place) move
  its_has move has = subst (λ set. Has set move) (sym its.is) has

  -- the run before is still cut where the run began with the place
  still_cut : StaysCut span places out known → start_at runs span.number ≡ out.place → 0 < span.number → IsCutAt sets shorter (start_at runs (span.number - 1)) out.place
  still_cut cut at some more other common has =
      let number : span.number - 1 + 1 ≡ span.number = omega arith in
      let run = rw number at (tight_run runs sets tight (span.number - 1) (omega (arith, inside))) in
      let end : border runs (length sets) span.number ≡ out.place = get_or-starts_of runs span.number (length sets) inside ∙ at in
      let next : Has (slice_index sets (out.place + 1)) other = subst (λ set. Has set other) (sym (short.behind out.place (omega arith))) has in
      let known_common : IsCommon sets span.before out.place other = rw (before_is some) at common in
      let own = cut (sym start_is ∙ at) some (omega (arith, short.size, row.count)) sets others other known_common next in
      let grown = common_more sets (start_at runs (span.number - 1)) out.place other common (its_has other own) in
      (rw end at run).maximal (omega (arith, its.inside)) other grown

  -- the run stays
  still_whole : StaysWhole span places out known → span.start + 1 < span.end → IsTightRun shorter (start_at runs span.number) (end_at runs (length sets) span.number - 1) (move_at runs span.number)
  still_whole whole more =
      let from = spans.from in
      let upto = spans.upto in
      let last : span.end - 1 + 1 ≡ span.end = omega arith in
      let run : IsTightRun sets span.start span.end span.mv = rw (spans.is.move, ← start_is, ← end_is) (tight_run runs sets tight span.number inside) in
      rw (start_is, end_is, ← spans.is.move)
      (run_without sets shorter out.place short span.start span.end span.mv run from upto more (λ other common.
      (let front = IsCommon-part shorter span.start (span.end - 1) span.start out.place other common (omega arith) (omega arith) in
      let back = IsCommon-part shorter span.start (span.end - 1) out.place (span.end - 1) other common (omega arith) (omega arith) in
      let early = common_same shorter sets span.start out.place other (λ k before. sym (short.before k before)) front in
      let late = rw last at (common_forth sets shorter out.place short out.place (span.end - 1) other (omega arith) back) in
      elim (whole sets others other early late) [
        | inl own ↦ inl (its_has other own)
        | inr new ↦ inr (new.0, λ inside. new.1 (omega (arith, row.count)))
      ])))

  -- the words behind the run can be one place earlier
  behind-earlier : ((k : ℕ) → get_or words k 0 < 2 ^ 32) → map run_of_word (raised one_less (drop (span.number + 1) words)) ≡ map earlier (map run_of_word (drop (span.number + 1) words))
  behind-earlier fits =
      runs-earlier (drop (span.number + 1) words) (sinking words (span.number + 1) tight.row.rises fits (λ more.
      (let next = get_or-starts_of runs (span.number + 1) places (omega (arith, length-map words run_of_word)) in
      omega (arith, spans.upto, spans.is.end))))

  packed_kept : StaysCut span places out known → StaysWhole span places out known → span.start + 1 < span.end → ((k : ℕ) → get_or words k 0 < 2 ^ 32)
      → IsPacked (map run_of_word (joined words (record { front = span.number + 1; own = None; back = span.number + 1 }) one_less)) shorter
  packed_kept cut whole more fits =
      let from : start_at runs span.number ≤ out.place = omega (arith, start_is, spans.from) in
      let upto : out.place < end_at runs (length sets) span.number = omega (arith, end_is, spans.upto) in
      let last = border-le runs places (rw (← row.count) tight.row) (span.number + 1) in
      let some : 0 < length shorter = omega (arith, short.size, spans.from, row.count, last, spans.is.end) in
      let new = runs_stay_without runs sets shorter out.place short tight span.number inside from upto some (still_cut cut) (still_whole whole more) in
      rw (runs-joined words [] (raised one_less (drop (span.number + 1) words)) (span.number + 1) (span.number + 1) earlier (behind-earlier fits))
      (IsPacked-from_tight _ _ new)

  packed_gone : StaysCut span places out known → span.end ≡ span.start + 1 → 1 < places → ((k : ℕ) → get_or words k 0 < 2 ^ 32)
      → IsPacked (map run_of_word (joined words (record { front = span.number; own = None; back = span.number + 1 }) one_less)) shorter
  packed_gone cut alone two fits =
      let from : start_at runs span.number ≤ out.place = omega (arith, start_is, spans.from) in
      let upto : out.place < end_at runs (length sets) span.number = omega (arith, end_is, spans.upto) in
      let some : 0 < length shorter = omega (arith, short.size, row.count) in
      let begin : start_at runs span.number ≡ out.place = omega (arith, start_is, spans.from, spans.upto) in
      let end : end_at runs (length sets) span.number ≡ out.place + 1 = omega (arith, end_is, spans.from, spans.upto) in
      let new = run_goes runs sets shorter out.place short tight span.number inside from upto some (still_cut cut) begin end in
      rw (runs-joined words [] (raised one_less (drop (span.number + 1) words)) span.number (span.number + 1) earlier (behind-earlier fits))
      (IsPacked-from_tight _ _ new)

module _ (words : List ℕ) (places : ℕ) (out : PlaceSet) (known : List PlaceSet) (span : Span) (spans : Spans words places out.place span)
    (cut : StaysCut span places out known) (fits : (k : ℕ) → get_or words k 0 < 2 ^ 32) where
  pub without_kept : StaysWhole span places out known → span.start + 1 < span.end → AreWithout words places out known (record { front = span.number + 1; own = None; back = span.number + 1 })
  without_kept whole more = record {
    front = omega (arith, spans.is.within);
    back = omega (arith, spans.is.within);
    packed = λ sets row. packed_kept words places out known span spans sets row cut whole more fits;
  }

  pub without_gone : span.end ≡ span.start + 1 → 1 < places → AreWithout words places out known (record { front = span.number; own = None; back = span.number + 1 })
  without_gone alone two = record {
    front = omega (arith, spans.is.within);
    back = omega (arith, spans.is.within);
    packed = λ sets row. packed_gone words places out known span spans sets row cut alone two fits;
  }
