-- A component that an edit does not touch is a component of the new map too.
use Rattle.std.proofs.Common.{◌≡◌, ℕ, ◌<◌, Bool, false, List, [], length, get_or, refl, sym, ◌∙◌, inl, inr}
use Rattle.std.specs.List.{Contains}
use Rattle.std.proofs.lemmas.Bool.{false≢true}
use Rattle.std.proofs.lemmas.List.Elements.{Contains-get_or}
use Rattle.moves.specs.declared.Cell.{Cell}
use Rattle.moves.specs.declared.Move.{Move}
use Rattle.moves.specs.Maps.{Map, IsPassable, terrain_of}
use Rattle.moves.specs.Moves.{is_diagonal, opposite, IsLegal}
use Rattle.moves.specs.Paths.{Reaches}
use Rattle.moves.specs.Components.{IsComponent, IsComponentList}
use Rattle.moves.proofs.MoveLaws.{legal_back, is_diagonal-opposite}
use Rattle.moves.proofs.LawsOfPaths.{one_more}
use Rattle.moves.proofs.StraightPaths.{kept_along, straight_is_legal}
use Rattle.moves.proofs.ComponentLaws.{stays_inside, member_is_passable}
use Rattle.components.specs.Edits.{HaveSameSides, AreChanged, IsTouched, AreTouched}
use Rattle.components.proofs.Alike.{sides_back, inside_too, passable_too, like_too, changed_or_same}

module _ (old new : Map) (sides : HaveSameSides old new) (components : List (List Cell)) (list : IsComponentList old components) (changed : List Cell) (are : AreChanged old new changed)
    (touched : List Bool) (t : AreTouched new components changed touched) where
  -- a step in the new map from an unchanged cell of a component to an unchanged cell stays in the component
  pub stays : (label : ℕ) → label < length components → (a : Cell) (by : Move) (b : Cell) → is_diagonal by ≡ false → Contains (get_or components label []) a → IsLegal new a by b
      → terrain_of new a ≡ terrain_of old a → terrain_of new b ≡ terrain_of old b
      → Contains (get_or components label []) b
  stays label low a by b straight has legal same_a same_b =
      stays_inside old (get_or components label []) (list.each label [] low) a by b has
      (straight_is_legal old a by b straight legal.target (member_is_passable old (get_or components label []) (list.each label [] low) a has)
      (like_too new old (sides_back old new sides) a b (sym same_a) (sym same_b) legal.enters))

  -- the component beside a changed cell is touched
  pub beside_touched : (label : ℕ) → label < length components → (a : Cell) (by : Move) (b : Cell) → is_diagonal by ≡ false
      → IsLegal new a by b → Contains changed a → Contains (get_or components label []) b → IsTouched touched label
  beside_touched label low a by b straight legal change has =
      (t.each a change).beside by legal.leaves.inside straight b label legal.target legal.enters.passable.inside (record { below = low; has = has })

  module _ (label : ℕ) (low : label < length components) (free : get_or touched label false ≡ false) where
    cells : List Cell
    cells = get_or components label []

    component : IsComponent old (get_or components label [])
    component = list.each label [] low

    untouched : IsTouched touched label → ⊥
    untouched is = false≢true (sym free ∙ is)

    -- the same stands at its cells as before
    still : (c : Cell) → Contains (get_or components label []) c → terrain_of new c ≡ terrain_of old c
    still c has =
        let before = member_is_passable old (get_or components label []) component c has in
        elim (are c before.inside) [
          | inl change ↦ absurd (untouched ((t.each c change).own label (inside_too old new sides c before.inside) (record { below = low; has = has })))
          | inr same ↦ same
        ]

    still_passable : (c : Cell) → Contains (get_or components label []) c → IsPassable new c
    still_passable c has =
        passable_too old new sides c (still c has) (member_is_passable old (get_or components label []) component c has)

    stays_kept : (a : Cell) (by : Move) (b : Cell) → is_diagonal by ≡ false → IsLegal new a by b → Contains (get_or components label []) a → Contains (get_or components label []) b
    stays_kept a by b straight legal has =
        elim (changed_or_same old new sides changed are b legal.enters.passable.inside) [
          | inl change ↦
              absurd (untouched (beside_touched label low b (opposite by) a (is_diagonal-opposite by ∙ straight) (legal_back new a by b legal) change has))
          | inr same ↦ stays label low a by b straight has legal (still a has) same
        ]

    pub kept_component : IsComponent new (get_or components label [])
    kept_component = record {
      some = component.some;
      passable = λ k d less. still_passable (get_or (get_or components label []) k d) (Contains-get_or (get_or components label []) k d less);
      whole = λ from to has. (
        λ has_to.
            let r = (component.whole from to has).0 has_to in
            (kept_along old (λ c. Contains (get_or components label []) c × Reaches new from c)
            (λ a by b straight legal p.
            let there = stays_inside old (get_or components label []) component a by b p.0 legal in (
              there,
              (
                _,
                one_more new from a b p.1.0 by p.1.1 (straight_is_legal new a by b straight legal.target (still_passable a p.0)
                    (like_too old new sides a b (still a p.0) (still b there) legal.enters)),
              ),
            ))
            from r.0 to r.1 (has, ([], (still_passable from has, refl)))).1,
        λ reach. kept_along new (Contains (get_or components label [])) stays_kept from reach.0 to reach.1 has,
      );
      in_order = component.in_order;
    }
