-- Verdicts on edits.
use Rattle.std.proofs.Common.{◌≡◌, ◌≢◌, ◌↔◌, inl, inr, ℕ, ◌+◌, ◌*◌, ◌<◌, ◌≤◌, Bool, true, false, cond, List, length, get_or, set, take, map, count_by, All, IsTrue, arith, sym, ap, refl, ◌∙◌}
use Rattle.std.proofs.lemmas.Bool.{leb-true, le-leb, cases_lt}
use Rattle.std.proofs.lemmas.List.{get_or-take, get_or_default, length-take, take_all}
use Rattle.std.proofs.lemmas.List.Elements.{All-take}
use Rattle.std.proofs.lemmas.List.Sums.{fold_more}
use Rattle.std.proofs.Math.Dec.{leb}
use mir.Val.{bool_byte}
use Rattle.moves.specs.declared.Cell.{Cell}
use Rattle.moves.specs.declared.TheConstants.{MAX_PASSABLE}
use Rattle.moves.specs.Maps.{Map, IsInside, IsPassable, IsSearchable, is_passable, passable_count, passable_of, place_of, terrain_of}
use Rattle.moves.proofs.Marks.{count_open, recounted}
use Rattle.moves.proofs.Landscapes.{passable_by_terrain, place_below}
use Rattle.edit_log.specs.declared.edit.CellChange.{CellChange}
use Rattle.edit_log.specs.declared.edit.Edit.{Edit}
use Rattle.edit_log.specs.declared.verdict.EditRefusal.{EditRefusal}
use Rattle.edit_log.specs.declared.verdict.EditRefusal.TheVariants.{Outside, Repeated, TooManyCells, EditsFull}
use Rattle.edit_log.specs.EditLaws.{EditsHaveOneVerdict, HasSameSides}
use Rattle.edit_log.specs.Edits.{ChangesInside, HasNoRepeats, changed, edited}
use Rattle.edit_log.specs.Verdicts.{IsRefusal, MayBeAccepted}
use Rattle.edit_log.proofs.EditedMaps.{edit_keeps_sides, untouched}

-- ---- one verdict

one_cause : (map : Map) (accepted : ℕ) (edit : Edit) (one other : EditRefusal) → IsRefusal map accepted edit one → IsRefusal map accepted edit other → one ≡ other
one_cause map accepted edit Outside Outside p q = refl
one_cause map accepted edit Outside Repeated p q = absurd (p q.0)
one_cause map accepted edit Outside TooManyCells p q = absurd (p q.0)
one_cause map accepted edit Outside EditsFull p q = absurd (p q.0)
one_cause map accepted edit Repeated Outside p q = absurd (q p.0)
one_cause map accepted edit Repeated Repeated p q = refl
one_cause map accepted edit Repeated TooManyCells p q = absurd (p.1 q.1)
one_cause map accepted edit Repeated EditsFull p q = absurd (p.1 q.1)
one_cause map accepted edit TooManyCells Outside p q = absurd (q p.0)
one_cause map accepted edit TooManyCells Repeated p q = absurd (q.1 p.1)
one_cause map accepted edit TooManyCells TooManyCells p q = refl
one_cause map accepted edit TooManyCells EditsFull p q = absurd (p.2 q.2)
one_cause map accepted edit EditsFull Outside p q = absurd (q p.0)
one_cause map accepted edit EditsFull Repeated p q = absurd (q.1 p.1)
one_cause map accepted edit EditsFull TooManyCells p q = absurd (q.2 p.2)
one_cause map accepted edit EditsFull EditsFull p q = refl

not_both : (map : Map) (accepted : ℕ) (edit : Edit) (cause : EditRefusal) → IsRefusal map accepted edit cause → MayBeAccepted map accepted edit → ⊥
not_both map accepted edit Outside p q = p q.inside
not_both map accepted edit Repeated p q = p.1 q.once
not_both map accepted edit TooManyCells p q = p.2 q.few
not_both map accepted edit EditsFull p q = omega (arith, p.3, q.room)

pub edits_have_one_verdict : EditsHaveOneVerdict
edits_have_one_verdict map accepted edit = record { refused = not_both map accepted edit; once = one_cause map accepted edit }

-- ---- no cell twice

-- of the first so many changes no two name one cell
abbrev pub AreApart : List CellChange → ℕ → Type 0
AreApart changes count = (i j : ℕ) (d : CellChange) → i < j → j < count → (get_or changes j d).cell ≢ (get_or changes i d).cell

pub one_more_apart : (changes : List CellChange) (count : ℕ) (e : CellChange) → AreApart changes count → count < length changes
    → All (λ change. (get_or changes count e).cell ≢ change.cell) (take count changes) → AreApart changes (count + 1)
one_more_apart changes count e apart below new i j d less within = elim (cases_lt j count) [
  | inl before ↦ apart i j d less before
  | inr past ↦
      let last : j ≡ count = omega (arith, past, within) in
      let first : i < length (take count changes) = omega (arith, less, within, below, length-take count changes) in
      λ same. new i d first
      (ap (λ c. c.cell) (get_or_default changes count e d below)
      ∙ ap (λ n. (get_or changes n d).cell) (sym last)
      ∙ same
      ∙ ap (λ c. c.cell) (sym (get_or-take count changes i d (omega (arith, less, last)))))
]

pub not_apart : (changes : List CellChange) (count : ℕ) (e : CellChange) → count < length changes
    → (All (λ change. (get_or changes count e).cell ≢ change.cell) (take count changes) → ⊥) → HasNoRepeats changes → ⊥
not_apart changes count e below named apart = named (λ k d lt.
    let less : k < count = omega (arith, lt, length-take count changes) in
    λ same. apart k count d less below
    (ap (λ c. c.cell) (get_or_default changes count d e below) ∙ same ∙ ap (λ c. c.cell) (get_or-take count changes k d less)))

pub found_twice : (changes : List CellChange) (count : ℕ) (e : CellChange) (new : Bool) → count < length changes
    → (IsTrue new ↔ All (λ change. (get_or changes count e).cell ≢ change.cell) (take count changes)) → new ≡ false
    → IsTrue false ↔ HasNoRepeats changes
found_twice changes count e new below is old = (
  λ so. let t : false ≡ true = so in absurd (cc),
  λ apart. absurd (not_apart changes count e below (λ all. let t : new ≡ true = is.1 all in let f : false ≡ true = sym old ∙ t in absurd (cc)) apart),
)

-- ---- how many cells are passable after it

-- what the cell was, by the test
not_true : (b : Bool) → (b ≡ true → false ≡ true) → b ≡ false
not_true true never = sym (never refl)
not_true false never = refl

pub value_is : (map : Map) (cell : Cell) (was : Bool) → IsInside map cell → (IsTrue was ↔ IsPassable map cell)
    → get_or (passable_of map) (place_of map.width cell) false ≡ was
value_is map cell true inside free = (free.0 refl).passable
value_is map cell false inside free = not_true _ (λ is. free.1 (record { inside = inside; passable = is }))

-- a truth value as a number
as_number : (b : Bool) → bool_byte b ≡ cond {A = ℕ} b 1 0
as_number true = refl
as_number false = refl

few_in : (b : Bool) → bool_byte b ≤ 1
few_in true = omega arith
few_in false = omega arith

-- so many changes are weighed: how many cells they made impassable or found passable, and how many they leave passable
pub record IsWeighed (map : Map) (changes : List CellChange) (count lost gained : ℕ) : Type 0 where
  pub balance : passable_count (edited map (take count changes)) + lost ≡ passable_count map + gained
  pub lost_few : lost ≤ count
  pub gained_few : gained ≤ count

pub none_weighed : (map : Map) (changes : List CellChange) → IsWeighed map changes 0 0 0
none_weighed map changes = record { balance = refl; lost_few = omega arith; gained_few = omega arith }

place_within : (map now : Map) (cell : Cell) → HasSameSides map now → IsInside map cell → length map.terrain ≡ map.width * map.height
    → place_of now.width cell < length now.terrain
place_within map now cell sides here whole =
    rw (sides.width, sides.cells, whole) (place_below map cell here)

pub one_more_weighed : (map : Map) (changes : List CellChange) (count lost gained had has : ℕ) (was : Bool) (e : CellChange)
    → ChangesInside map changes → HasNoRepeats changes → length map.terrain ≡ map.width * map.height
    → IsWeighed map changes count lost gained → count < length changes → (IsTrue was ↔ IsPassable map (get_or changes count e).cell)
    → had ≡ bool_byte was → has ≡ bool_byte (is_passable (get_or changes count e).terrain)
    → IsWeighed map changes (count + 1) (lost + had) (gained + has)
one_more_weighed map changes count lost gained had has was e inside once whole so_far below free hads hass =
    let change : CellChange = get_or changes count e in
    let now : Map = edited map (take count changes) in
    let sides : HasSameSides map now = edit_keeps_sides map (take count changes) in
    let here : IsInside map change.cell = inside count e below in
    let apart : All (λ other. change.cell ≢ other.cell) (take count changes) = λ k d lt.
    let less : k < count = omega (arith, lt, length-take count changes) in
    λ same. once k count d less below
    (ap (λ c. c.cell) (get_or_default changes count d e below) ∙ same ∙ ap (λ c. c.cell) (get_or-take count changes k d less)) in
    let still : terrain_of now change.cell ≡ terrain_of map change.cell =
    untouched map (take count changes) change.cell (All-take (λ c. IsInside map c.cell) count changes inside) here apart in
    let value : is_passable (terrain_of now change.cell) ≡ was =
    ap is_passable still ∙ sym (passable_by_terrain map change.cell whole here) ∙ value_is map change.cell was here free in
    let place : ℕ = place_of now.width change.cell in
    let within : place < length now.terrain = place_within map now change.cell sides here whole in
    let counted : count_by is_passable (set now.terrain place change.terrain) + cond {A = ℕ} was 1 0
    ≡ count_by is_passable now.terrain + cond {A = ℕ} (is_passable change.terrain) 1 0 =
    rw value at (recounted now.terrain place change.terrain within) in
    let next : passable_count (edited map (take (count + 1) changes)) ≡ count_by is_passable (set now.terrain place change.terrain) =
    ap passable_count (fold_more changed map changes count e below) ∙ sym (count_open (set now.terrain place change.terrain)) in
    let balance : passable_count now + lost ≡ passable_count map + gained = so_far.balance in
    let before : count_by is_passable now.terrain ≡ passable_count now = count_open now.terrain in
    let had_is : had ≡ cond {A = ℕ} was 1 0 = hads ∙ as_number was in
    let has_is : has ≡ cond {A = ℕ} (is_passable change.terrain) 1 0 = hass ∙ as_number (is_passable change.terrain) in
    record {
      balance = omega (arith, counted, next, balance, before, had_is, has_is);
      lost_few = omega (arith, so_far.lost_few, hads, few_in was);
      gained_few = omega (arith, so_far.gained_few, hass, few_in (is_passable change.terrain));
    }

pub leaves_few : (map : Map) (changes : List CellChange) (count lost gained passable : ℕ) → IsWeighed map changes count lost gained
    → length changes ≤ count → passable ≡ passable_count map
    → IsTrue (leb (passable + gained) (MAX_PASSABLE + lost)) ↔ IsSearchable (edited map changes)
leaves_few map changes count lost gained passable so_far past is =
    let all : edited map (take count changes) ≡ edited map changes = ap (edited map) (take_all count changes past) in
    let balance : passable_count (edited map changes) + lost ≡ passable_count map + gained = rw all at so_far.balance in (
      λ true. omega (arith, leb-true _ _ true, balance, is),
      λ few. le-leb _ _ (omega (arith, few, balance, is)),
    )
