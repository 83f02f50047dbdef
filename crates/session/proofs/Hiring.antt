-- Doors and passes that go over into a list of workers, and come back.
use Rattle.std.proofs.Common.{◌≡◌, ℕ, ◌+◌, ◌-◌, ◌<◌, ◌≤◌, List, [], ◌∷◌, ◌++◌, All, length, map, reverse, take, drop, get_or, refl, sym, subst, ap, ◌∙◌, arith, length-append}
use Rattle.std.proofs.Math.Seq.{get_or-append_seam}
use Rattle.std.proofs.lemmas.List.{append-nil, append_assoc, drop_all, take_all, get_or-map, get_or-reverse, length-map, length-reverse, map-append, reverse-append}
use Rattle.path_board.specs.declared.pass.Pass.{Pass}
use Rattle.session.specs.Crews.{backwards}

module _ {W X : Type 0} where
  pub back_push : (workers : List W) (worker : W) (read : W → X) → backwards (workers ++ worker ∷ []) read ≡ read worker ∷ backwards workers read
  back_push workers worker read =
      ap reverse (map-append read workers (worker ∷ [])) ∙ reverse-append (map read workers) (read worker ∷ [])

  pub back_long : (workers : List W) (read : W → X) → length (backwards workers read) ≡ length workers
  back_long workers read = length-reverse (map read workers) ∙ length-map workers read

  -- what is read at a place is that of the worker as far from the end
  pub back_at : (workers : List W) (read : W → X) (i : ℕ) (default : X) (worker : W) → i < length workers
      → get_or (backwards workers read) i default ≡ read (get_or workers (length workers - 1 - i) worker)
  back_at workers read i default worker early =
      let long : length (map read workers) ≡ length workers = length-map workers read in
      get_or-reverse (map read workers) i default (omega (arith, early, long))
      ∙ ap (λ n. get_or (map read workers) (n - 1 - i) default) long
      ∙ get_or-map read workers (length workers - 1 - i) worker default (omega (arith, early))

-- an element goes over from the end of one list to the front of what follows it
goes_over : {X : Type 0} (had left : List X) (x : X) (back longer whole : List X) → had ≡ left ++ x ∷ [] → longer ≡ x ∷ back → had ++ back ≡ whole
    → left ++ longer ≡ whole
goes_over had left x back longer whole e f is =
    ap (λ l. left ++ l) f ∙ sym (append_assoc left (x ∷ []) back) ∙ ap (λ l. l ++ back) (sym e) ∙ is

-- and comes back
comes_back : {X : Type 0} (had more : List X) (x : X) (back longer whole : List X) → more ≡ had ++ x ∷ [] → longer ≡ x ∷ back → had ++ longer ≡ whole
    → more ++ back ≡ whole
comes_back had more x back longer whole e f is =
    ap (λ l. l ++ back) e ∙ append_assoc had (x ∷ []) back ∙ ap (λ l. had ++ l) (sym f) ∙ is

module _ {W D : Type 0} (door : W → D) (pass : W → Pass) (all_doors : List D) (all_passes : List Pass) where
  -- the workers so far have the last doors and passes, and there is room for the others
  pub record IsHiring (crew : List W) (doors : List D) (passes : List Pass) (room : ℕ) : Type 0 where
    pub doors_are : doors ++ backwards crew door ≡ all_doors
    pub passes_are : passes ++ backwards crew pass ≡ all_passes
    pub long : length passes ≡ length doors
    pub room_is : length doors + length crew ≤ room

  pub hiring_none : (crew : List W) (room : ℕ) → crew ≡ [] → length all_passes ≡ length all_doors → length all_doors ≤ room
      → IsHiring crew all_doors all_passes room
  hiring_none crew room none long few =
      let no_crew : length crew ≡ 0 = ap length none in
      record {
        doors_are = ap (λ l. all_doors ++ backwards l door) none ∙ append-nil all_doors;
        passes_are = ap (λ l. all_passes ++ backwards l pass) none ∙ append-nil all_passes;
        long = long;
        room_is = omega (arith, no_crew, few);
      }

  pub hiring_more : (crew : List W) (doors : List D) (passes : List Pass) (room : ℕ) (more : List W) (worker : W) (left : List D) (rest : List Pass)
      (x : D) (y : Pass) (room_then : ℕ) → IsHiring crew doors passes room → doors ≡ left ++ x ∷ [] → passes ≡ rest ++ y ∷ [] → more ≡ crew ++ worker ∷ []
      → door worker ≡ x → pass worker ≡ y → room_then ≡ room → IsHiring more left rest room_then
  hiring_more crew doors passes room more worker left rest x y room_then p d q w at held same =
      let doors_long : length doors ≡ length left + 1 = ap length d ∙ length-append left (x ∷ []) in
      let passes_long : length passes ≡ length rest + 1 = ap length q ∙ length-append rest (y ∷ []) in
      let crew_long : length more ≡ length crew + 1 = ap length w ∙ length-append crew (worker ∷ []) in
      let long = p.long in
      let few = p.room_is in
      record {
        doors_are = goes_over doors left x (backwards crew door) (backwards more door) all_doors d
            (ap (λ l. backwards l door) w ∙ back_push crew worker door ∙ ap (λ e. e ∷ backwards crew door) at) p.doors_are;
        passes_are = goes_over passes rest y (backwards crew pass) (backwards more pass) all_passes q
            (ap (λ l. backwards l pass) w ∙ back_push crew worker pass ∙ ap (λ e. e ∷ backwards crew pass) held) p.passes_are;
        long = omega (arith, doors_long, passes_long, long);
        room_is = omega (arith, doors_long, crew_long, few, same);
      }

  pub hiring_all : (crew : List W) (doors : List D) (passes : List Pass) (room : ℕ) → IsHiring crew doors passes room → length doors ≡ 0
      → (backwards crew door ≡ all_doors) × (backwards crew pass ≡ all_passes) × (passes ≡ [])
  hiring_all crew [] [] room p none = (p.doors_are, p.passes_are, refl)
  hiring_all crew [] (y ∷ rest) room p none = let long : length (y ∷ rest) ≡ 0 = p.long in absurd (omega (arith, long))
  hiring_all crew (x ∷ left) passes room p none = absurd (omega (arith, none))

  -- the next pass is one of all
  pub hiring_of : (P : Pass → Type 0) (crew : List W) (doors : List D) (passes : List Pass) (room : ℕ) (rest : List Pass) (y : Pass) → All P all_passes
      → IsHiring crew doors passes room → passes ≡ rest ++ y ∷ [] → P y
  hiring_of P crew doors passes room rest y all p q =
      let whole : all_passes ≡ rest ++ y ∷ backwards crew pass =
      sym p.passes_are ∙ ap (λ l. l ++ backwards crew pass) q ∙ append_assoc rest (y ∷ []) (backwards crew pass) in
      let long : length all_passes ≡ length rest + length (y ∷ backwards crew pass) = ap length whole ∙ length-append rest (y ∷ backwards crew pass) in
      subst P (ap (λ l. get_or l (length rest) y) whole ∙ get_or-append_seam rest y (backwards crew pass) y)
      (all (length rest) y (omega (arith, long)))

  -- the doors and passes of the last workers are back
  pub record IsBack (crew : List W) (doors : List D) (passes : List Pass) : Type 0 where
    pub doors_are : doors ++ backwards crew door ≡ all_doors
    pub passes_are : passes ++ backwards crew pass ≡ all_passes

  pub back_more : (crew : List W) (doors : List D) (passes : List Pass) (left : List W) (worker : W) (more : List D) (rest : List Pass)
      → IsBack crew doors passes → crew ≡ left ++ worker ∷ [] → more ≡ doors ++ door worker ∷ [] → rest ≡ passes ++ pass worker ∷ [] → IsBack left more rest
  back_more crew doors passes left worker more rest p c d q = record {
    doors_are = comes_back doors more (door worker) (backwards left door) (backwards crew door) all_doors d
        (ap (λ l. backwards l door) c ∙ back_push left worker door) p.doors_are;
    passes_are = comes_back passes rest (pass worker) (backwards left pass) (backwards crew pass) all_passes q
        (ap (λ l. backwards l pass) c ∙ back_push left worker pass) p.passes_are;
  }

  pub back_all : (crew : List W) (doors : List D) (passes : List Pass) → IsBack crew doors passes → length crew ≡ 0
      → (doors ≡ all_doors) × (passes ≡ all_passes)
  back_all [] doors passes p none = (sym (append-nil doors) ∙ p.doors_are, sym (append-nil passes) ∙ p.passes_are)
  back_all (worker ∷ crew) doors passes p none = absurd (omega (arith, none))

-- a list that was lent whole comes back as what was left in it
pub lent_back : {X : Type 0} (had new : List X) (count : ℕ) → count ≡ length had → length new ≡ length had → take count (new ++ drop (length new) had) ≡ new
lent_back had new count counted same =
    ap (λ l. take count (new ++ l)) (drop_all (length new) had (omega (arith, same)))
    ∙ ap (take count) (append-nil new) ∙ take_all count new (omega (arith, counted, same))
