-- From guesses that all wait to keys and sets that meet their equations.
use Rattle.std.proofs.Common.{◌≡◌, ℕ, ◌+◌, ◌/◌, ◌^◌, ◌<◌, ◌≤◌, List, [], length, get_or, take, replicate, slice_index, inl, inr, sym, ap, subst, ◌∙◌, arith}
use Rattle.std.proofs.lemmas.Bool.{cases_lt}
use Rattle.std.proofs.lemmas.List.{get_or-take, get_or_past, length-take}
use Rattle.moves.specs.declared.Move.{Move}
use Rattle.moves.specs.Moves.{number_of}
use Rattle.lane_rows.specs.Tables.{edges_of, end_of, IsMutual}
use Rattle.lane_rows.specs.Classes.{class_in, AreByClass, AreWithin}
use Rattle.lane_rows.proofs.Alike.{inside_settled}
use Rattle.std.proofs.lemmas.Simd.{get_or-replicate}
use Rattle.lane_rows.specs.Equations.{far, lane_of}
use Rattle.lane_rows.specs.Tiles.{IsSolved}
use Rattle.lane_rows.specs.Visits.{AreSettled, AreSolved, IsSwept, LanesAt, lane_in, lanes_at}
use Rattle.root_cost.specs.declared.TheConstants.{GREATEST_KEY}

pub far_at_start : (keys : List (List ℕ)) (count place lane : ℕ) → place < count → lane < 16 → keys ≡ replicate count (replicate 16 far) → lane_of keys lane place ≡ far
far_at_start keys count place lane p l filled =
    ap (λ rows. get_or (get_or rows place []) lane 0) filled ∙ ap (λ row. get_or row lane 0) (get_or-replicate count place (replicate 16 far) [] p) ∙ get_or-replicate 16 lane far 0 l

pub all_wait : (near : List (List ℕ)) (source : ℕ) (all : LanesAt) (lane count : ℕ) → length near < count → all.waits ≡ replicate count 1
    → AreSettled near source (lane_in all lane)
all_wait near source all lane count more filled = record {
  each = λ place p none.
      let one : get_or all.waits place 0 ≡ 1 = ap (λ list. get_or list place 0) filled ∙ get_or-replicate count place 1 0 (omega arith) in
      let zero : get_or all.waits place 0 ≡ 0 = none in
      absurd (omega arith);
}

-- each neighbour is a place, or there is none
within_count : (near : List (List ℕ)) (place : ℕ) (move : Move) → IsMutual near → place < length near → end_of (edges_of near place) move ≤ length near
within_count near place move pair here = elim (cases_lt (number_of move) (length (edges_of near place))) [
  | inl l ↦ pair.within place [] here (number_of move) 0 l
  | inr past ↦ omega (arith, get_or_past (edges_of near place) (number_of move) 0 past)
]

-- where places that do not wait are inside their classes, and no lane's source is one of them, they are settled
pub classes_settled : (near : List (List ℕ)) (sources costs codes first waits : List ℕ) (offsets class_sets keys sets : List (List ℕ)) (count : ℕ) → IsMutual near → count ≡ length near
    → length keys ≡ length near + 1
    → ((lane : ℕ) → lane < 16 → AreByClass count (slice_index costs) (class_in codes) (lane_of offsets lane) (lane_of class_sets lane) (lane_of keys lane) (lane_of sets lane))
    → ((lane place : ℕ) → lane < 16 → place < count → lane_of keys lane place < far)
    → ((lane : ℕ) → lane < 16 → lane_of keys lane count ≡ far)
    → ((place : ℕ) → slice_index costs place ≤ far) → slice_index costs count ≡ far
    → AreWithin near costs codes sets first (length near)
    → ((place : ℕ) → slice_index waits place ≡ 0 → slice_index first place ≡ 0)
    → ((lane : ℕ) → lane < 16 → slice_index waits (slice_index sources lane) ≡ 0 → ⊥)
    → (lane : ℕ) → lane < 16 → AreSettled near (slice_index sources lane) (lane_in (lanes_at keys sets waits) lane)
classes_settled near sources costs codes first waits offsets class_sets keys sets count pair same long by_class small last cheap last_cost are_in still woken lane l = record {
  each = λ place p none.
      let before = still place none in
      let within = are_in place p before in
      let here = within.inside in
      inside_settled near (length near) (slice_index sources lane) place (slice_index costs) (class_in codes) (lane_of offsets lane) (lane_of class_sets lane) (lane_of keys lane) (lane_of sets lane)
      (λ move. within_count near place move pair p)
      (subst (λ n. AreByClass n (slice_index costs) (class_in codes) (lane_of offsets lane) (lane_of class_sets lane) (lane_of keys lane) (lane_of sets lane)) same (by_class lane l))
      (λ at q. small lane at l (omega arith))
      (subst (λ n. lane_of keys lane n ≡ far) same (last lane l)) cheap (subst (λ n. slice_index costs n ≡ far) same last_cost) p
      (λ source. woken lane l (ap (slice_index waits) (sym source) ∙ none))
      (record {
        alike = λ move. elim (here.alike move) [ inl nowhere ↦ inl nowhere | inr code ↦ inr (ap (λ c. c / 2 ^ 16) code) ];
        at_most = here.at_most;
        attained = here.attained;
      })
      (within.byte lane l) (within.some lane l) (within.not_all lane l);
}

-- from places that are settled where they do not wait to keys and sets that meet their equations
pub solved_on : (near : List (List ℕ)) (sources : List ℕ) (old new : LanesAt) → length new.keys ≡ length near + 1
    → ((lane : ℕ) → lane < 16 → lane_of old.keys lane (length near) ≡ far)
    → ((lane : ℕ) → lane < 16 → AreSettled near (slice_index sources lane) (lane_in old lane)) → IsSwept near sources old new
    → ((place : ℕ) → slice_index (take (length near) new.waits) place ≡ 0)
    → ((lane place : ℕ) → lane < 16 → place < length (take (length near) new.keys) → lane_of (take (length near) new.keys) lane place < GREATEST_KEY)
    → (lane : ℕ) → lane < 16 → AreSolved near (slice_index sources lane) (lane_of new.keys lane) (lane_of new.sets lane)
solved_on near sources old new long start before swept none small lane l =
    let settled = swept.settled lane l (before lane l) in
    record {
      settled = λ place p. settled.each place p (sym (get_or-take (length near) new.waits place 0 p) ∙ none place);
      small = λ place p.
          let same : lane_of (take (length near) new.keys) lane place ≡ lane_of new.keys lane place = ap (λ row. get_or row lane 0) (get_or-take (length near) new.keys place [] p) in
          let low = small lane place l (let t = length-take (length near) new.keys in omega arith) in
          omega arith;
      none = swept.last lane l ∙ start lane l;
    }

pub solved : (near : List (List ℕ)) (sources : List ℕ) (old new : LanesAt) (count : ℕ) → length near < count → old.waits ≡ replicate count 1
    → length new.keys ≡ count
    → ((lane : ℕ) → lane < 16 → lane_of old.keys lane (length near) ≡ far) → IsSwept near sources old new
    → ((place : ℕ) → slice_index (take (length near) new.waits) place ≡ 0)
    → ((lane place : ℕ) → lane < 16 → place < length (take (length near) new.keys) → lane_of (take (length near) new.keys) lane place < GREATEST_KEY)
    → (lane : ℕ) → lane < 16 → AreSolved near (slice_index sources lane) (lane_of new.keys lane) (lane_of new.sets lane)
solved near sources old new count more filled long start swept none small lane l =
    let settled = swept.settled lane l (all_wait near (slice_index sources lane) old lane count more filled) in
    record {
      settled = λ place p. settled.each place p (sym (get_or-take (length near) new.waits place 0 p) ∙ none place);
      small = λ place p.
          let same : lane_of (take (length near) new.keys) lane place ≡ lane_of new.keys lane place = ap (λ row. get_or row lane 0) (get_or-take (length near) new.keys place [] p) in
          let low = small lane place l (let t = length-take (length near) new.keys in omega arith) in
          omega arith;
      none = swept.last lane l ∙ start lane l;
    }

pub tile_solved : (near near' : List (List ℕ)) (lanes : List ℕ) (count : ℕ) (sources : List ℕ) (keys sets keys' sets' words : List (List ℕ)) → near' ≡ near → keys' ≡ keys → sets' ≡ sets
    → ((lane : ℕ) → lane < 16 → slice_index lanes lane ≡ slice_index sources lane)
    → ((lane : ℕ) → lane < 16 → AreSolved near' (slice_index lanes lane) (lane_of keys lane) (lane_of sets lane))
    → length near ≡ count → IsSolved near (record { count = count; sources = sources; keys = keys'; sets = sets'; words = words })
tile_solved near near' lanes count sources keys sets keys' sets' words same k s at all places = record {
  places = places;
  lanes = λ lane l.
      subst (λ xs. AreSolved near (slice_index sources lane) (lane_of xs lane) (lane_of sets' lane)) (sym k)
      (subst (λ xs. AreSolved near (slice_index sources lane) (lane_of keys lane) (lane_of xs lane)) (sym s)
      (subst (λ source. AreSolved near source (lane_of keys lane) (lane_of sets lane)) (at lane l)
      (subst (λ n. AreSolved n (slice_index lanes lane) (lane_of keys lane) (lane_of sets lane)) same (all lane l))));
}
