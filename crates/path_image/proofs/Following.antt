-- A walk that was followed for some turns: what was ahead at the start is what was done and what is ahead now.
use Rattle.std.proofs.Common.{◌≡◌, ℕ, ◌+◌, List, [], ◌∷◌, ◌++◌, length, map, set, refl, sym, ap, ◌∙◌, append_assoc, append-nil, arith}
use Rattle.std.proofs.lemmas.List.{length-append, length-map, length_push, map_push}
use Rattle.root_cost.specs.declared.Cost.{Cost}
use Rattle.moves.specs.declared.Move.{Move}
use Rattle.moves.specs.Moves.{number_of}
use Rattle.moves.specs.Paths.{cost_of}
use Rattle.versions.specs.Databases.{Versioned}
use Rattle.path_image.specs.declared.walking.Walk.{Walk}
use Rattle.path_image.specs.declared.walking.Step.TheVariants.{Arrived, Go, Lost}
use Rattle.path_image.specs.Answers.{overwritten}
use Rattle.path_image.specs.Reading.{size_at, start_in}
use Rattle.path_image.specs.Walks.{IsAhead, IsUnderWay, Advances}
use Rattle.path_image.proofs.Showing.{size_shown}

pub record IsLeft (words : List ℕ) (version : Versioned) (walk : Walk) (done moves : List Move) : Type 0 where
  pub rest : List Move
  pub whole : moves ≡ done ++ rest
  pub ahead : IsAhead words version walk rest

-- and of what was done something is known
pub record IsFollowed (Known : List Move → Type 0) (words : List ℕ) (start walk : Walk) (turns : ℕ) : Type 0 where
  pub done : List Move
  pub long : length done ≡ turns
  pub known : Known done
  pub under_way : IsUnderWay words walk
  pub same : walk.home.label ≡ start.home.label
  pub left : (version : Versioned) (moves : List Move) → IsAhead words version start moves → IsLeft words version walk done moves

pub followed_none : (Known : List Move → Type 0) (words : List ℕ) (start : Walk) → Known [] → IsUnderWay words start → IsFollowed Known words start start 0
followed_none Known words start known under_way = record {
  done = [];
  long = refl;
  known = known;
  under_way = under_way;
  same = refl;
  left = λ version moves ahead. record { rest = moves; whole = refl; ahead = ahead };
}

module _ (Known : List Move → Type 0) (words : List ℕ) (start walk : Walk) (turns : ℕ) (p : IsFollowed Known words start walk turns) where
  pub followed_more : (Next : List Move → Type 0) (next : Walk) (by : Move) → Advances words walk next (Go by) → IsUnderWay words next
      → next.home.label ≡ walk.home.label → (Known p.done → Next (p.done ++ by ∷ [])) → IsFollowed Next words start next (turns + 1)
  followed_more Next next by step under_way label more = record {
    done = p.done ++ by ∷ [];
    long = (let l = p.long in let push = length_push p.done by in omega arith);
    known = more p.known;
    under_way = under_way;
    same = label ∙ p.same;
    left = λ version moves ahead.
        (let left = p.left version moves ahead in
        let taken = step version left.rest left.ahead in
        record {
          rest = taken.0;
          whole = left.whole ∙ ap (λ ms. p.done ++ ms) taken.1 ∙ sym (append_assoc p.done (by ∷ []) taken.0);
          ahead = taken.2;
        });
  }

  -- at the goal all was done
  pub followed_all : (next : Walk) → Advances words walk next Arrived → (version : Versioned) (moves : List Move) → IsAhead words version start moves → moves ≡ p.done
  followed_all next step version moves ahead =
      let left = p.left version moves ahead in
      let none = step version left.rest left.ahead in
      left.whole ∙ ap (λ ms. p.done ++ ms) none ∙ append-nil p.done

  -- over a version no walk gets lost
  pub never_lost : (next : Walk) → Advances words walk next Lost → (version : Versioned) (moves : List Move) → IsAhead words version start moves → ⊥
  never_lost next step version moves ahead = let left = p.left version moves ahead in step version left.rest left.ahead

  -- nor takes as many turns as the component has cells
  pub never_long : turns ≡ size_at words (start_in words start.home.label) → (version : Versioned) (moves : List Move) → IsAhead words version start moves → ⊥
  never_long all version moves ahead =
      let left = p.left version moves ahead in
      let size = size_shown words version ahead.image start.home.label ahead.within in
      let few = ahead.few in
      let long = p.long in
      let whole = ap length left.whole ∙ length-append p.done left.rest in
      omega arith

-- this is what the moves cost that were done
abbrev pub CostIs : Cost → List Move → Type 0
CostIs cost done = cost ≡ cost_of done

-- the moves that were done stand in the room, and so many they are
pub record ArePut (old new : List ℕ) (count : ℕ) (done : List Move) : Type 0 where
  pub long : count ≡ length done
  pub room : new ≡ overwritten old (map number_of done)

-- a number more stands behind the numbers that stand in a room
overwritten_none : (room : List ℕ) → overwritten room [] ≡ room
overwritten_none [] = refl
overwritten_none (x ∷ room) = refl

overwritten_one : (x : ℕ) (room : List ℕ) (number : ℕ) → number ∷ room ≡ number ∷ overwritten room []
overwritten_one x room number = ap (λ xs. number ∷ xs) (sym (overwritten_none room))

overwritten_more : (room numbers : List ℕ) (number : ℕ) → set (overwritten room numbers) (length numbers) number ≡ overwritten room (numbers ++ number ∷ [])
overwritten_more [] [] number = refl
overwritten_more [] (n ∷ numbers) number = refl
overwritten_more (x ∷ room) [] number = overwritten_one x room number
overwritten_more (x ∷ room) (n ∷ numbers) number = ap (λ xs. n ∷ xs) (overwritten_more room numbers number)

pub are_put_none : (room : List ℕ) → ArePut room room 0 []
are_put_none [] = record { long = refl; room = refl }
are_put_none (x ∷ room) = record { long = refl; room = refl }

pub are_put_more : (old new next : List ℕ) (count : ℕ) (done : List Move) (by : Move) → ArePut old new count done → next ≡ set new count (number_of by)
    → ArePut old next (count + 1) (done ++ by ∷ [])
are_put_more old new next count done by p put = record {
  long = (let l = p.long in let push = length_push done by in omega arith);
  room =
      (let numbers = length-map done number_of in
      let at : count ≡ length (map number_of done) = omega (arith, p.long) in
      put ∙ ap (λ r. set r count (number_of by)) p.room ∙ ap (λ n. set (overwritten old (map number_of done)) n (number_of by)) at
      ∙ overwritten_more old (map number_of done) (number_of by) ∙ ap (overwritten old) (sym (map_push number_of done by)));
}
