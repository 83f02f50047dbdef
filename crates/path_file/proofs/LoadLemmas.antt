-- A file that is read wholly.
use Rattle.std.proofs.Common.{◌≡◌, ℕ, ◌*◌, ◌<◌, ◌≤◌, List, [], ◌++◌, length, get_or, map, All, refl, sym, ap, ◌∙◌, subst, arith}
use Rattle.std.proofs.lemmas.List.{append-nil, get_or-map, length-drop, length-map, length-take-le, take_all}
use Rattle.std.proofs.lemmas.Simd.{map-map}
use Rattle.moves.specs.declared.Cell.{Cell}
use Rattle.moves.specs.declared.TheConstants.{MAX_PASSABLE}
use Rattle.moves.specs.Maps.{Map, IsWithinLimits}
use Rattle.moves.specs.Components.{IsComponentList}
use Rattle.cell_order.specs.declared.OrderKind.{OrderKind}
use Rattle.cell_order.specs.Orders.{ordered}
use Rattle.row_store.specs.Comps.{Comp, IsComp}
use Rattle.row_store.specs.Rows.{AreRows}
use Rattle.row_check.specs.declared.RowFault.{RowFault}
use Rattle.row_check.specs.declared.RowFault.TheVariants as row
use Rattle.row_check.specs.Faults.{IsFirstFaultAmong}
use Rattle.versions.specs.Databases.{IsDatabase, component_at, comp_at, no_comp, version_of}
use Rattle.path_file.specs.declared.fault.DbError.{DbError}
use Rattle.path_file.specs.declared.fault.DbError.TheVariants.{Fault, NoMemory}
use Rattle.path_file.specs.declared.fault.DbFault.{DbFault}
use Rattle.path_file.specs.declared.fault.DbFault.TheVariants as why
use Rattle.path_file.specs.declared.head.Head.{Head}
use Rattle.path_file.specs.Files.{HasFile, comps_bytes, file_of, ground_bytes, head_bytes, head_of}
use Rattle.path_file.specs.Fields.{AreAllComps, IsHead, Known, at_end, free_in, known_bytes, map_from}
use Rattle.path_file.specs.Faults.{IsBadRows, IsFirstDbFault, IsRefusal}
use Rattle.path_file.specs.Readings.{AreParts, IsReady, IsRefusalOfParts, Parted, Reading, comp_of, db_fault, front, no_part, rest}
use Rattle.path_file.proofs.CellLemmas.{count_is_free}
use Rattle.path_file.proofs.CheckLemmas.{HasRightRows}
use Rattle.path_file.proofs.Opening.{field_here}
use Rattle.path_file.proofs.PartReading.{comps_known, rows_in, rows_in_at}

-- a part whose rows are right is a component
comp_is : (order : OrderKind) (part : Parted) → IsReady part → HasRightRows part → IsComp (comp_of order part)
comp_is order part ready right = record {
  some = ready.cells.some;
  few = ready.cells.few;
  on_map = ready.cells.on_map;
  once = ready.cells.once;
  connected = ready.cells.connected;
  rows = right;
}

-- parts whose rows are right are the database of the map
pub database : (m : Map) (order : OrderKind) (components : List (List Cell)) (parts : List Parted) (comps : List Comp) → IsComponentList m components
    → AreParts order components parts → All IsReady parts → comps ≡ map (comp_of order) parts → All HasRightRows parts → IsDatabase m order comps
database m order components parts comps listed are ready is right =
    let long = length-map parts (comp_of order) in
    let size : length comps ≡ length parts = ap length is ∙ long in
    record {
      components = components;
      listed = listed;
      whole = size ∙ are.long;
      each = λ label less.
          (let inside : label < length parts = omega arith in
          let part = get_or parts label no_part in
          let at : comp_at comps label ≡ comp_of order part = ap (λ cs. comp_at cs label) is ∙ get_or-map (comp_of order) parts label no_part no_comp inside in
          record {
            kind = ap (λ (c : Comp). c.kind) at;
            cells = ap (λ (c : Comp). c.cells) at ∙ are.cells label inside;
            whole = subst IsComp (sym at) (comp_is order part (ready label no_part inside) (right label no_part inside));
          });
    }

-- what is known where all components are read
abbrev all_of : Head → Map → List Parted → Known
all_of head m parts = record { head = head; ground = m.terrain; comps = rows_in parts; rows = [] }

module _ (r : Reading) (head : Head) (m : Map) (components : List (List Cell)) (parts : List Parted) (is : IsHead head) (from : m ≡ map_from head m.terrain)
    (whole : length m.terrain ≡ m.width * m.height) (few : free_in m.terrain ≤ MAX_PASSABLE) (listed : IsComponentList m components)
    (are : AreParts head.order components parts) (at : front r ≡ (head_bytes head ++ ground_bytes m.terrain) ++ comps_bytes (rows_in parts)) where
  all_known : AreAllComps (all_of head m parts)
  all_known = record {
    components = components;
    before = comps_known head m is from whole few components listed parts (omega (arith, are.long)) are.rows;
    all = length-map parts (λ (q : Parted). q.rows) ∙ are.long;
    none = refl;
  }

  front_known : front r ≡ known_bytes (all_of head m parts)
  front_known = at ∙ sym (append-nil ((head_bytes head ++ ground_bytes m.terrain) ++ comps_bytes (rows_in parts)))

  -- bytes follow
  pub load_extra : (fault : DbFault) → fault ≡ why.Extra r.at → 0 < length (rest r) → IsFirstDbFault r.bytes fault
  load_extra fault told more =
      let size = length-take-le r.at r.bytes (omega (arith, length-drop r.at r.bytes)) in
      subst (IsFirstDbFault r.bytes) (sym told) (record {
        known = all_of head m parts;
        from_is = sym size ∙ ap length front_known;
        field = field_here r (at_end (all_of head m parts)) all_known front_known (λ left. 0 < length left) more;
      })

  module _ (end : r.at ≡ length r.bytes) where
    all_read : r.bytes ≡ front r
    all_read = sym (take_all r.at r.bytes (omega (arith, end)))

    bad_rows : (comp : ℕ) (fault : RowFault) → comp < length parts
        → ((label : ℕ) → label < comp → HasRightRows (get_or parts label no_part))
        → IsFirstFaultAmong (get_or parts comp no_part).cells (get_or parts comp no_part).rows fault → IsBadRows r.bytes comp fault
    unfolding all_known
    bad_rows comp fault inside before first = record {
      known = all_of head m parts;
      all = all_known;
      whole = all_read ∙ front_known;
      inside = omega (arith, length-map parts (λ (q : Parted). q.rows));
      before = λ label early.
          (let there : label < length parts = omega arith in
          subst (λ rs. AreRows (ordered head.order (component_at components label)) rs) (sym (rows_in_at parts label there))
          (subst (λ cs. AreRows cs (get_or parts label no_part).rows) (are.cells label there) (before label early)));
      first = subst (λ rs. IsFirstFaultAmong (ordered head.order (component_at components comp)) rs fault) (sym (rows_in_at parts comp inside))
          (subst (λ cs. IsFirstFaultAmong cs (get_or parts comp no_part).rows fault) (are.cells comp inside) first);
    }

    by_fault : (comp : ℕ) (fault : RowFault) → IsBadRows r.bytes comp fault → IsFirstDbFault r.bytes (db_fault comp fault)
    by_fault comp (row.Walk target source) bad = bad
    by_fault comp (row.Worse target source) bad = bad
    by_fault comp (row.Loose target source) bad = bad

    -- the rows of a component are not right
    pub load_wrong : (error : DbError) → IsRefusalOfParts parts error → IsRefusal r.bytes error
    load_wrong NoMemory wrong = tt
    load_wrong (Fault fault) wrong =
        subst (IsFirstDbFault r.bytes) (sym wrong.here.is)
        (by_fault wrong.comp wrong.here.of_rows (bad_rows wrong.comp wrong.here.of_rows wrong.inside wrong.before wrong.here.first))

    module _ (ready : All IsReady parts) (comps : List Comp) (made : comps ≡ map (comp_of head.order) parts) (right : All HasRightRows parts) where
      pub load_database : IsDatabase m head.order comps
      load_database = database m head.order components parts comps listed are ready made right

      pub load_has : HasFile (version_of m head.prefix head.order comps)
      load_has = record {
        is_version = record { searchable = omega (arith, count_is_free m, few); database = load_database };
        limits = subst (λ (n : Map). IsWithinLimits n.width n.height) (sym from) is.limits;
        whole = whole;
        edits = is.prefix;
      }

      pub load_file : r.bytes ≡ file_of (version_of m head.prefix head.order comps)
      load_file =
          let heads : head_bytes head ≡ head_bytes (head_of (version_of m head.prefix head.order comps)) =
          ap (λ (n : Map). head_bytes (record { width = n.width; height = n.height; prefix = head.prefix; order = head.order })) (sym from) in
          let rows : rows_in parts ≡ map (λ comp. comp.rows) comps =
          sym (ap (map (λ (c : Comp). c.rows)) made ∙ map-map (λ (c : Comp). c.rows) (comp_of head.order) parts) in
          all_read ∙ at ∙ ap (λ l. (l ++ ground_bytes m.terrain) ++ comps_bytes (rows_in parts)) heads
          ∙ ap (λ rs. (head_bytes (head_of (version_of m head.prefix head.order comps)) ++ ground_bytes m.terrain) ++ comps_bytes rs) rows
