use Rattle.std.proofs.Common.{rules, arith, ◌≡◌, ◌+◌, ap, sym, subst, refl, ◌∙◌, Some, length}
use Rattle.std.specs.Option.{IsSome}
use mathlib.Core.Option.{some-injective}
use Rattle.turn_book.proofs.Ending.{closes, closes_with}
use Rattle.turn_book.specs.Steps.{Tells}
use Rattle.turn_book.proofs.book.Book.close.Goals as goal
use Rattle.turn_book.proofs.book.Book.close.Goals.{After-unwrap}

pub unwrap-requires : goal.unwrap-requires
unwrap-requires g c =
    let all = c.gather-all.ensures in
    let count : length c.args.seats.items ≡ length c.gather-all.result.me.0.ended + 1 = search rules in
    let t = closes g.S.Serial.list g.S.Serial.base g.S.Serial.names _ _ _ _ c.close_with-closed.ensures.values.2 all.based all.idle all.some_number
    (all.made ∙ ap Some count) in
    subst IsSome (some-injective _ _ (sym t.1 ∙ c.take-state.ensures.value)) refl

-- what the seats say of the state that came out of the slot
told : (g : _) (c : After-unwrap g) → (c.gather-all.result.me.0.base ≡ Some (g.S.Serial.base c.unwrap.result))
    × Tells g.S.Serial.names c.gather-all.result.me.0 (g.S.Serial.list c.unwrap.result)
told g c =
    let all = c.gather-all.ensures in
    let count : length c.args.seats.items ≡ length c.gather-all.result.me.0.ended + 1 = search rules in
    closes_with g.S.Serial.list g.S.Serial.base g.S.Serial.names _ _ _ _ _ c.unwrap.result c.close_with-closed.ensures.values.2 all.based all.idle
    all.some_number (all.made ∙ ap Some count) c.take-state.ensures.value c.unwrap.ensures

pub returns-clause-list : goal.returns-clause-list
returns-clause-list g c =
    let all = c.gather-all.ensures in
    let t = told g (goal.at.returns-clause-list g c).After-unwrap in
    λ place default inside. all.says _ (t.1.own, t.1.ended) place default (omega arith) inside

pub returns-clause-named : goal.returns-clause-named
returns-clause-named g c = (told g (goal.at.returns-clause-named g c).After-unwrap).1.known _ c.gather-all.ensures.made

pub returns-clause-base : goal.returns-clause-base
returns-clause-base g c = λ default. sym (c.gather-all.ensures.base_is default) ∙ (told g (goal.at.returns-clause-base g c).After-unwrap).0
