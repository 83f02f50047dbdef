-- The component of two cells, and the walk that begins there.
use Rattle.std.proofs.Common.{◌≡◌, ◌≢◌, ℕ, ◌<◌, List, [], ◌∷◌, length, sym, ap, subst, ◌∙◌, arith}
use Rattle.std.specs.List.{Contains}
use Rattle.std.proofs.lemmas.List.{get_or_default}
use Rattle.moves.specs.declared.Cell.{Cell}
use Rattle.moves.specs.declared.Move.{Move}
use Rattle.moves.specs.declared.TheConstants.{MAX_PASSABLE}
use Rattle.moves.specs.Maps.{Map, IsPassable}
use Rattle.moves.specs.Paths.{Reaches}
use Rattle.moves.specs.Components.{IsComponentList}
use Rattle.components.specs.Groups.{IsLabelOf}
use Rattle.cell_order.specs.declared.OrderKind.{OrderKind}
use Rattle.row_store.specs.Comps.{Comp}
use Rattle.versions.specs.declared.version.Totals.{Totals}
use Rattle.versions.specs.Spelled.{IsKept, Spells}
use Rattle.versions.specs.Databases.{component_at, comp_at, IsDatabase}
use Rattle.versions.specs.Answers.{IsHome, IsWalk}
use Rattle.versions.specs.Stored.{IsStored}
use Rattle.versions.proofs.Determined.{same_components}
use Rattle.versions.proofs.BestWalks.{component_of, kept_cells, cells_kept, one_label, best_walk, kept_once}

-- each passable cell has a label
pub labelled : (map : Map) (labels : List (List Cell)) (cell : Cell) → IsComponentList map labels → IsPassable map cell → (label : ℕ) × IsLabelOf labels cell label
labelled map labels cell listed passable =
    let found = listed.every_cell cell passable in
    let is = get_or_default labels found.0 [] found.1 found.2 ∙ found.3 in
    (found.0, record { below = found.2; has = subst (λ cells. Contains cells cell) (sym is) found.4 })

module _ (map : Map) (order : OrderKind) (labels : List (List Cell)) (comps : List Comp) (totals : Totals) (stored : IsStored map order labels comps totals) where
  -- the labels are those of the database
  same_labels : labels ≡ stored.database.components
  same_labels = same_components map labels stored.database.components stored.listed stored.database.listed

  pub label_below : (cell : Cell) (label : ℕ) → IsLabelOf labels cell label → label < length comps
  label_below cell label is = let l = is.below in let long = stored.long in omega arith

  -- the component with a cell's label has the cell
  has_label : (cell : Cell) (label : ℕ) → IsLabelOf labels cell label → Contains (comp_at comps label).cells cell
  has_label cell label is =
      cells_kept map order comps stored.database label (label_below cell label is) cell (subst (λ ls. Contains (component_at ls label) cell) same_labels is.has)

  pub home_of : (start goal : Cell) (label : ℕ) (comp : Comp) → IsLabelOf labels start label → IsLabelOf labels goal label → comp_at comps label ≡ comp → IsHome comps start goal comp
  home_of start goal label comp p q is = record {
    label = label;
    within = label_below start label p;
    is = is;
    leaves = subst (λ c. Contains c.cells start) is (has_label start label p);
    arrives = subst (λ c. Contains c.cells goal) is (has_label goal label q);
  }

  -- cells with two labels are not joined
  pub labels_apart : (start goal : Cell) (i j : ℕ) → IsLabelOf labels start i → IsLabelOf labels goal j → i ≢ j → Reaches map start goal → ⊥
  labels_apart start goal i j p q apart reaches =
      let within = label_below start i p in
      let component = component_of map order comps stored.database i within in
      let begins = kept_cells map order comps stored.database i within start (has_label start i p) in
      let ends = cells_kept map order comps stored.database i within goal ((component.whole start goal begins).1 reaches) in
      apart (one_label map order comps stored.database i j within (label_below goal j q) goal ends (has_label goal j q))

-- what is kept for the goal begins the walk
pub goes_on : (map : Map) (order : OrderKind) (comps : List Comp) → IsDatabase map order comps → (start goal : Cell) (comp : Comp) (move : Move) → start ≢ goal
    → IsHome comps start goal comp → IsKept comp.cells comp.rows start goal move → (rest : List Move) × IsWalk map comps start goal (move ∷ rest)
goes_on map order comps database start goal comp move apart home kept =
    let label = home.label in
    let within = home.within in
    let component = component_of map order comps database label within in
    let begins = kept_cells map order comps database label within start (subst (λ c. Contains c.cells start) (sym home.is) home.leaves) in
    let ends = kept_cells map order comps database label within goal (subst (λ c. Contains c.cells goal) (sym home.is) home.arrives) in
    let walk = best_walk map order comps database start goal ((component.whole start goal begins).0 ends) in
    first_is walk.0 walk.1
  where
    first_is : (moves : List Move) → IsWalk map comps start goal moves → (rest : List Move) × IsWalk map comps start goal (move ∷ rest)
    first_is [] w = absurd (apart w.spelled.spelled)
    first_is (first ∷ rest) w =
        let same = one_label map order comps database w.spelled.label home.label w.spelled.within home.within start w.spelled.leaves
        (subst (λ c. Contains c.cells start) (sym home.is) home.leaves) in
        let its = subst (λ l. IsKept (comp_at comps l).cells (comp_at comps l).rows start goal first) same w.spelled.spelled.1 in
        let here = subst (λ c. IsKept c.cells c.rows start goal first) home.is its in
        let whole = (database.each home.label home.within).whole in
        let once = subst (λ c. (m : Move) → IsKept c.cells c.rows start goal m → m ≡ move) home.is
        (λ m k. kept_once (comp_at comps home.label).cells (comp_at comps home.label).rows whole.rows whole.once start goal m move k
        (subst (λ c. IsKept c.cells c.rows start goal move) (sym home.is) kept)) in
        (rest, subst (λ m. IsWalk map comps start goal (m ∷ rest)) (once first here) w)

-- there are as many labels as components
pub as_many : (map : Map) (order : OrderKind) (labels : List (List Cell)) (comps : List Comp) → IsComponentList map labels → IsDatabase map order comps → length comps ≡ length labels
as_many map order labels comps listed database = database.whole ∙ ap length (sym (same_components map labels database.components listed database.listed))

-- the walk, and what is spelled in the component itself
pub walk_at_home : (map : Map) (order : OrderKind) (comps : List Comp) → IsDatabase map order comps → (start goal : Cell) (comp : Comp)
    → IsHome comps start goal comp → (moves : List Move) × IsWalk map comps start goal moves × Spells comp.cells comp.rows start moves goal
walk_at_home map order comps database start goal comp home =
    let component = component_of map order comps database home.label home.within in
    let here = subst (λ c. Contains c.cells start) (sym home.is) home.leaves in
    let begins = kept_cells map order comps database home.label home.within start here in
    let ends = kept_cells map order comps database home.label home.within goal (subst (λ c. Contains c.cells goal) (sym home.is) home.arrives) in
    let walk = best_walk map order comps database start goal ((component.whole start goal begins).0 ends) in
    let spelled = walk.1.spelled in
    let same = one_label map order comps database spelled.label home.label spelled.within home.within start spelled.leaves here in (
      walk.0,
      walk.1,
      subst (λ c. Spells c.cells c.rows start walk.0 goal) home.is
          (subst (λ l. Spells (comp_at comps l).cells (comp_at comps l).rows start walk.0 goal) same spelled.spelled),
    )

-- a walk has fewer moves than a map may have passable cells
pub few_moves : (map : Map) (order : OrderKind) (comps : List Comp) → IsDatabase map order comps → (start goal : Cell) (moves : List Move)
    → IsWalk map comps start goal moves → length moves < MAX_PASSABLE
few_moves map order comps database start goal moves walk =
    let few = (database.each walk.spelled.label walk.spelled.within).whole.few in
    let short = walk.short in
    omega arith
