-- The near walks of a near version are best paths of the whole map.
use Rattle.std.proofs.Common.{◌≡◌, ◌≢◌, ℕ, ◌+◌, ◌<◌, List, [], ◌∷◌, ◌++◌, length, refl, ap, subst, ◌∙◌, inl, inr, arith}
use Rattle.std.proofs.lemmas.Bool.{cases_lt}
use Rattle.std.proofs.lemmas.List.{length-append, get_or_append_left}
use Rattle.std.proofs.Math.Seq.{get_or-append_seam}
use Rattle.std.specs.List.{Contains}
use Rattle.moves.specs.declared.Cell.{Cell}
use Rattle.moves.specs.declared.Move.{Move}
use Rattle.moves.specs.declared.TheConstants.{MAX_PASSABLE}
use Rattle.moves.specs.Maps.{Map, passable_count}
use Rattle.moves.specs.Paths.{Reaches}
use Rattle.moves.specs.Components.{IsComponentList}
use Rattle.moves.proofs.LawsOfPaths.{leads_from}
use Rattle.components.specs.Groups.{IsLabelOf}
use Rattle.row_store.specs.Comps.{Comp, IsComp}
use Rattle.versions.specs.declared.version.Totals.{Totals}
use Rattle.versions.specs.Databases.{Versioned, IsVersion, component_at, comp_at, runs_of}
use Rattle.versions.specs.Stored.{IsStored}
use Rattle.versions.proofs.Homes.{labels_apart, label_below, home_of, as_many}
use Rattle.versions.proofs.BestWalks.{component_of, same_cells_kept, kept_cells, cells_kept, label_of, one_label}
use Rattle.near_rows.specs.NearRows.{Nearby, AreNear}
use Rattle.near_rows.specs.NearVersions.{NearVersioned, IsNearVersion, IsHomeLabel, nearby_at}
use Rattle.near_rows.specs.NearPaths.{SpellsNear, IsNearMove, IsNearWalk, NearWalksAreBest}
use Rattle.build_pool.specs.Places.{AreComponent}
use Rattle.near_rows.specs.Building.{IsGround}
use Rattle.near_rows.proofs.NearMoves.{near_walk, near_once, spelled_near_once}

-- ---- a component of a version

module _ (version : Versioned) (is : IsVersion version) (label : ℕ) (within : label < length version.comps) where
  comp : Comp
  comp = comp_at version.comps label

  pub comp_whole : IsComp (comp_at version.comps label)
  comp_whole = (is.database.each label within).whole

  pub part_of_version : AreComponent version.map (comp_at version.comps label).cells
  part_of_version = record {
    component = component_at is.database.components label;
    is = component_of version.map version.order version.comps is.database label within;
    order = same_cells_kept version.map version.order version.comps is.database label within;
  }

  pub ground_of_version : IsGround version.map (comp_at version.comps label).cells
  ground_of_version = record {
    part = part_of_version;
    alone = comp_whole.rows.map;
    just = comp_whole.rows.just;
    searchable = is.searchable;
    few = comp_whole.few;
    on_map = comp_whole.on_map;
    once = comp_whole.once;
  }

module _ (near : NearVersioned) (is : IsNearVersion near) where
  -- the component of two cells that a path joins has both
  pub home_label : (start goal : Cell) → Reaches near.version.map start goal → (label : ℕ) × IsHomeLabel near start goal label
  home_label start goal reaches =
      let database = is.is.database in
      let map = near.version.map in
      let order = near.version.order in
      let comps = near.version.comps in
      let at = label_of map order comps database start (leads_from map start goal reaches.0 reaches.1) in
      let component = component_of map order comps database at.0 at.1 in
      let begins = kept_cells map order comps database at.0 at.1 start at.2 in
      let ends = cells_kept map order comps database at.0 at.1 goal ((component.whole start goal begins).1 reaches) in
      (at.0, record { within = at.1; leaves = at.2; arrives = ends })

  -- the near walk between two cells of a component, and what is spelled in the component itself
  pub walk_from : (start goal : Cell) (label : ℕ) → IsHomeLabel near start goal label
      → (moves : List Move) × IsNearWalk near start goal moves
      × SpellsNear (comp_at near.version.comps label).cells (nearby_at near.nearby label) start moves goal
  walk_from start goal label home =
      let map = near.version.map in
      let comps = near.version.comps in
      let cells = (comp_at comps label).cells in
      let nearby = nearby_at near.nearby label in
      let each = is.each label home.within in
      let part = part_of_version near.version is.is label home.within in
      let whole = comp_whole near.version is.is label home.within in
      let walk = near_walk map cells nearby each part start goal home.leaves home.arrives in (
        walk.0,
        record {
          spelled = record { label = label; within = home.within; leaves = home.leaves; arrives = home.arrives; spelled = walk.1 };
          best = walk.2;
          short = walk.3;
          only = λ others its.
              (let same = one_label map near.version.order comps is.is.database its.label label its.within home.within start its.leaves home.leaves in
              spelled_near_once map cells nearby each whole.once start goal others walk.0
              (subst (λ l. SpellsNear (comp_at comps l).cells (nearby_at near.nearby l) start others goal) same its.spelled) walk.1);
        },
        walk.1,
      )

  -- the near move to the goal begins the near walk
  pub goes_on : (start goal : Cell) (label : ℕ) (move : Move) → start ≢ goal → IsHomeLabel near start goal label
      → IsNearMove (comp_at near.version.comps label).cells (nearby_at near.nearby label) start goal move
      → (rest : List Move) × IsNearWalk near start goal (move ∷ rest)
  goes_on start goal label move apart home kept =
      let walk = walk_from start goal label home in
      first_is walk.0 walk.1 walk.2
    where
      first_is : (moves : List Move) → IsNearWalk near start goal moves
          → SpellsNear (comp_at near.version.comps label).cells (nearby_at near.nearby label) start moves goal
          → (rest : List Move) × IsNearWalk near start goal (move ∷ rest)
      first_is [] w spelled = absurd (apart spelled)
      first_is (first ∷ rest) w spelled =
          let whole = comp_whole near.version is.is label home.within in
          let same = near_once near.version.map (comp_at near.version.comps label).cells (nearby_at near.nearby label) (is.each label home.within) whole.once
          start goal first move spelled.1 kept in
          (rest, subst (λ m. IsNearWalk near start goal (m ∷ rest)) same w)

  -- a near walk has fewer moves than a map may have passable cells
  pub few_moves : (start goal : Cell) (moves : List Move) → IsNearWalk near start goal moves → length moves < MAX_PASSABLE
  few_moves start goal moves walk =
      let whole = comp_whole near.version is.is walk.spelled.label walk.spelled.within in
      let few = whole.few in
      let short = walk.short in
      omega arith

pub near_walks_are_best : NearWalksAreBest
near_walks_are_best near is start goal reaches =
    let home = home_label near is start goal reaches in
    let walk = walk_from near is start goal home.0 home.1 in
    (walk.0, walk.1)

-- ---- labels

module _ (near : NearVersioned) (is : IsNearVersion near) (labels : List (List Cell)) (listed : IsComponentList near.version.map labels) where
  totals : Totals
  totals = record { cells = passable_count near.version.map; comps = length near.version.comps; runs = runs_of near.version.comps }

  stored : IsStored near.version.map near.version.order labels near.version.comps totals
  unfolding totals
  stored = record {
    searchable = is.is.searchable;
    database = is.is.database;
    listed = listed;
    long = as_many near.version.map near.version.order labels near.version.comps listed is.is.database;
    cells = refl;
    components = refl;
    runs = refl;
  }

  pub label_within : (cell : Cell) (label : ℕ) → IsLabelOf labels cell label → label < length near.version.comps
  label_within cell label h = label_below near.version.map near.version.order labels near.version.comps totals stored cell label h

  pub label_has : (cell : Cell) (label : ℕ) → IsLabelOf labels cell label → Contains (comp_at near.version.comps label).cells cell
  label_has cell label h =
      (home_of near.version.map near.version.order labels near.version.comps totals stored cell cell label (comp_at near.version.comps label) h h refl).leaves

  pub home_by_labels : (start goal : Cell) (label : ℕ) → IsLabelOf labels start label → IsLabelOf labels goal label → IsHomeLabel near start goal label
  home_by_labels start goal label p q = record { within = label_within start label p; leaves = label_has start label p; arrives = label_has goal label q }

  pub apart_by_labels : (start goal : Cell) (i j : ℕ) → IsLabelOf labels start i → IsLabelOf labels goal j → i ≢ j → Reaches near.version.map start goal → ⊥
  apart_by_labels start goal i j p q apart =
      labels_apart near.version.map near.version.order labels near.version.comps totals stored start goal i j p q apart

-- ---- a component of a version, and what is near in it, while they are found one after the other

pub ground_at : (version : Versioned) → IsVersion version → (label : ℕ) (comp : Comp) (map : Map) (cells : List Cell) → label < length version.comps
    → comp_at version.comps label ≡ comp → map ≡ version.map → cells ≡ comp.cells → IsGround map cells
ground_at version is label comp map cells within at same_map same_cells =
    rw (same_map, same_cells, ← at) (ground_of_version version is label within)

-- what is near in the components before a number
pub record AreNearTo (version : Versioned) (nearby : List Nearby) (upto : ℕ) : Type 0 where
  pub size : length nearby ≡ upto
  pub each : (label : ℕ) → label < upto → AreNear version.map (comp_at version.comps label).cells (nearby_at nearby label)

pub near_to_none : (version : Versioned) (nearby : List Nearby) → nearby ≡ [] → AreNearTo version nearby 0
near_to_none version nearby blank = record { size = ap length blank; each = λ label before. absurd (omega arith) }

pub near_to_more : (version : Versioned) (old new : List Nearby) (upto : ℕ) (near : Nearby) → AreNearTo version old upto → new ≡ old ++ near ∷ []
    → AreNear version.map (comp_at version.comps upto).cells near → AreNearTo version new (upto + 1)
near_to_more version old new upto near p pushed here = record {
  size = ap length pushed ∙ length-append old (near ∷ []) ∙ (let size = p.size in omega arith);
  each = λ label before. elim (cases_lt label upto) [
    | inl early ↦
        let read : nearby_at new label ≡ nearby_at old label =
        ap (λ xs. nearby_at xs label) pushed ∙ get_or_append_left old (near ∷ []) (record { radii = []; rows = [] }) label (let size = p.size in omega arith) in
        rw read (p.each label early)
    | inr late ↦
        let same : length old ≡ label = (let size = p.size in omega arith) in
        let there : upto ≡ label = omega arith in
        let read : nearby_at new (length old) ≡ near = ap (λ xs. nearby_at xs (length old)) pushed ∙ get_or-append_seam old near [] (record { radii = []; rows = [] }) in
        let is : nearby_at new label ≡ near = subst (λ k. nearby_at new k ≡ near) same read in
        rw is (subst (λ k. AreNear version.map (comp_at version.comps k).cells near) there here)
  ];
}

pub near_to_all : (version : Versioned) (nearby : List Nearby) (upto : ℕ) → IsVersion version → AreNearTo version nearby upto → upto ≡ length version.comps
    → IsNearVersion (record { version = version; nearby = nearby })
near_to_all version nearby upto is p all = record { is = is; whole = p.size ∙ all; each = λ label within. p.each label (omega arith) }
