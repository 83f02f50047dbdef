-- Which version a pass holds while a feed goes on.
use Rattle.std.proofs.Common.{Bool, true, false, IsTrue, IsFalse, inl, inr, refl, ap, ◌∙◌}
use Rattle.versions.specs.Databases.{Versioned}
use Rattle.path_core.specs.Passes.{BeginsWith}
use Rattle.path_core.proofs.Passing.{begins_itself, begins_then}
use Rattle.path_board.specs.declared.pass.Pass.{Pass}
use Rattle.path_board.specs.Passes.{seen_of, IsUpToDate, KeepsHeld, KeepsOlder}
use Rattle.feed_node.specs.Looking.{HoldsSince}

pub since_itself : (pass : Pass) → HoldsSince pass pass
since_itself pass = inl refl

pub since_kept : (before after : Pass) → KeepsHeld before after → HoldsSince before after
since_kept before after kept = inl (ap (λ (v : Versioned). v.prefix) kept.held)

pub since_look : (before after : Pass) (held : Bool) → BeginsWith (seen_of after) (seen_of before) → (IsTrue held → IsUpToDate after)
    → (IsFalse held → KeepsOlder before after) → HoldsSince before after
since_look before after true grows at older =
    inr (record { at = seen_of after; later = grows; earlier = begins_itself (seen_of after); is = (at refl).version.after })
since_look before after false grows at older = since_kept before after (older refl).kept

pub since_then : (before mid after : Pass) → BeginsWith (seen_of mid) (seen_of before) → BeginsWith (seen_of after) (seen_of mid) → HoldsSince before mid
    → HoldsSince mid after → HoldsSince before after
since_then before mid after first second h k = elim k [
  | inl same ↦ elim h [
    | inl e ↦ inl (same ∙ e)
    | inr w ↦ inr (record { at = w.at; later = w.later; earlier = begins_then w.at (seen_of mid) (seen_of after) w.earlier second; is = same ∙ w.is })
  ]
  | inr w ↦ inr (record { at = w.at; later = begins_then (seen_of before) (seen_of mid) w.at first w.later; earlier = w.earlier; is = w.is })
]
