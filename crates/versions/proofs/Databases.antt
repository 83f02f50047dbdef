-- A map has one database in each order.
use Rattle.std.proofs.Common.{◌≡◌, ◌<◌, List, length, sym, ap, subst, ◌∙◌, arith}
use Rattle.std.proofs.lemmas.List.{same_lists, get_or_default}
use Rattle.moves.specs.declared.Cell.{Cell}
use Rattle.cell_order.specs.declared.OrderKind.{OrderKind}
use Rattle.row_store.specs.Rows.{AreRows}
use Rattle.row_store.specs.Comps.{Comp}
use Rattle.versions.specs.Databases.{IsKeptAs, component_at, comp_at, no_comp, DatabasesAreDetermined}
use Rattle.versions.proofs.Determined.{same_components}
use Rattle.row_store.proofs.RowLaws.{rows_are_unique}

same_fields : (a b : Comp) → a.kind ≡ b.kind → a.cells ≡ b.cells → a.rows ≡ b.rows → a ≡ b
same_fields a b p q r = λ i. record { kind = p i; cells = q i; rows = r i }

-- a component is kept in one way in each order
pub kept_in_one_way : (order : OrderKind) (component : List Cell) (a b : Comp) → IsKeptAs order component a → IsKeptAs order component b → a ≡ b
kept_in_one_way order component a b p q =
    let cells = p.cells ∙ sym q.cells in
    same_fields a b (p.kind ∙ sym q.kind) cells (rows_are_unique b.cells a.rows b.rows (subst (λ c. AreRows c a.rows) cells p.whole.rows) q.whole.rows)

pub databases_are_determined : DatabasesAreDetermined
databases_are_determined map order a b p q =
    let components = same_components map p.components q.components p.listed q.listed in
    let size = p.whole ∙ ap length components ∙ sym q.whole in
    same_lists a b size (λ k d within.
    let there : k < length b = omega arith in
    let its = subst (λ cs. IsKeptAs order (component_at cs k) (comp_at b k)) (sym components) (q.each k there) in
    get_or_default a k d no_comp within ∙ kept_in_one_way order (component_at p.components k) (comp_at a k) (comp_at b k) (p.each k within) its
    ∙ sym (get_or_default b k d no_comp there))
