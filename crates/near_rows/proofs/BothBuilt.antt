-- The components of a map and what is near in each, built one after the other.
use Rattle.std.proofs.Common.{◌≡◌, ℕ, ◌+◌, ◌<◌, List, [], ◌∷◌, ◌++◌, length, sym, ap, subst, ◌∙◌, inl, inr, arith}
use Rattle.std.proofs.lemmas.Bool.{cases_lt}
use Rattle.std.proofs.lemmas.List.{get_or_append_left, get_or_push, length_push}
use Rattle.moves.specs.declared.Cell.{Cell}
use Rattle.moves.specs.Maps.{Map, IsSearchable}
use Rattle.moves.specs.Components.{IsComponent, IsComponentList}
use Rattle.cell_order.specs.declared.OrderKind.{OrderKind}
use Rattle.row_store.specs.Comps.{Comp}
use Rattle.build_pool.proofs.Connecting.{AreGiven, on_map_all, sources_in_order}
use Rattle.versions.specs.Databases.{Versioned, IsDatabase, IsKeptAs, component_at, comp_at, no_comp, version_of}
use Rattle.near_rows.specs.NearRows.{Nearby, AreNear}
use Rattle.near_rows.specs.NearVersions.{AreNearIn, IsNearVersion, nearby_at}
use Rattle.near_rows.specs.Building.{IsGround}

-- the components before a number are built, and what is near in them
pub record AreBuilt (m : Map) (order : OrderKind) (components : List (List Cell)) (comps : List Comp) (nearby : List Nearby) (upto : ℕ) : Type 0 where
  pub comps_size : length comps ≡ upto
  pub nearby_size : length nearby ≡ upto
  pub kept : (label : ℕ) → label < upto → IsKeptAs order (component_at components label) (comp_at comps label)
  pub near : (label : ℕ) → label < upto → AreNear m (comp_at comps label).cells (nearby_at nearby label)

pub built_none : (m : Map) (order : OrderKind) (components : List (List Cell)) (comps : List Comp) (nearby : List Nearby) → comps ≡ [] → nearby ≡ []
    → AreBuilt m order components comps nearby 0
built_none m order components comps nearby p q = record {
  comps_size = ap length p;
  nearby_size = ap length q;
  kept = λ label before. absurd (omega arith);
  near = λ label before. absurd (omega arith);
}

module _ (m : Map) (order : OrderKind) (components : List (List Cell)) (comps : List Comp) (nearby : List Nearby) (upto : ℕ) (p : AreBuilt m order components comps nearby upto) where
  no_near : Nearby
  no_near = record { radii = []; rows = [] }

  pub built_more : (comp : Comp) (near : Nearby) → IsKeptAs order (component_at components upto) comp → AreNear m comp.cells near
      → AreBuilt m order components (comps ++ comp ∷ []) (nearby ++ near ∷ []) (upto + 1)
  unfolding no_near
  built_more comp near kept is_near =
      let many = p.comps_size in
      let more = p.nearby_size in
      record {
        comps_size = (let long = length_push comps comp in omega arith);
        nearby_size = (let long = length_push nearby near in omega arith);
        kept = λ label before. elim (cases_lt label upto) [
          | inl early ↦
              let read : comp_at (comps ++ comp ∷ []) label ≡ comp_at comps label = get_or_append_left comps (comp ∷ []) no_comp label (omega arith) in
              rw read (p.kept label early)
          | inr late ↦
              let at : label ≡ upto = omega arith in
              let read : comp_at (comps ++ comp ∷ []) label ≡ comp = get_or_push comps comp no_comp label (omega arith) in
              rw (read, at) kept
        ];
        near = λ label before. elim (cases_lt label upto) [
          | inl early ↦
              let read : comp_at (comps ++ comp ∷ []) label ≡ comp_at comps label = get_or_append_left comps (comp ∷ []) no_comp label (omega arith) in
              let its : nearby_at (nearby ++ near ∷ []) label ≡ nearby_at nearby label = get_or_append_left nearby (near ∷ []) no_near label (omega arith) in
              rw (read, its) (p.near label early)
          | inr late ↦
              let read : comp_at (comps ++ comp ∷ []) label ≡ comp = get_or_push comps comp no_comp label (omega arith) in
              let its : nearby_at (nearby ++ near ∷ []) label ≡ near = get_or_push nearby near no_near label (omega arith) in
              rw (read, its) is_near
        ];
      }

  pub built_database : IsComponentList m components → upto ≡ length components → IsDatabase m order comps
  built_database listed all = record {
    components = components;
    listed = listed;
    whole = p.comps_size ∙ all;
    each = λ label within. p.kept label (let size = p.comps_size in omega arith);
  }

  pub built_near : AreNearIn m comps nearby
  built_near = record {
    whole = p.nearby_size ∙ sym p.comps_size;
    each = λ label within. p.near label (let size = p.comps_size in omega arith);
  }

-- a version of these components, with what is near in them
pub near_version_from : (m : Map) (order : OrderKind) (comps : List Comp) (nearby : List Nearby) (version : Versioned) → version ≡ version_of m 0 order comps → IsSearchable m
    → IsDatabase m order comps → AreNearIn m comps nearby → IsNearVersion (record { version = version; nearby = nearby })
near_version_from m order comps nearby version same searchable database near =
    subst (λ v. IsNearVersion (record { version = v; nearby = nearby })) (sym same)
    (record { is = record { searchable = searchable; database = database }; whole = near.whole; each = near.each })

-- the cells of a component in some order are those of a component of its map
pub ground_in_order : (m : Map) (cells order : List Cell) → AreGiven cells order → IsComponent m cells → IsSearchable m → IsGround m order
ground_in_order m cells order given is searchable =
    let sources = sources_in_order cells order given in
    record {
      part = record { component = cells; is = is; order = given.same };
      alone = sources.board;
      just = sources.just;
      searchable = searchable;
      few = sources.few;
      on_map = on_map_all order sources.on_map;
      once = sources.numbered.once;
    }
