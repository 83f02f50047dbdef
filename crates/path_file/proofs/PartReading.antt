-- The components of a map, as they are read.
use Rattle.std.proofs.Common.{◌≡◌, ℕ, ◌+◌, ◌*◌, ◌<◌, ◌≤◌, List, [], ◌∷◌, ◌++◌, length, get_or, map, All, refl, sym, ap, ◌∙◌, subst, inl, inr, append_assoc, arith}
use Rattle.std.proofs.lemmas.Bool.{cases_lt}
use Rattle.std.proofs.lemmas.List.{append-nil, get_or-map, get_or_append_left, get_or_push, length_push, length-map, map-append}
use Rattle.std.proofs.lemmas.List.Concat.{flat_map-append}
use Rattle.std.proofs.lemmas.List.Elements.{All-push}
use Rattle.run_pack.specs.declared.Run.{Run}
use Rattle.moves.specs.declared.Cell.{Cell}
use Rattle.moves.specs.declared.TheConstants.{MAX_PASSABLE}
use Rattle.moves.specs.Maps.{Map}
use Rattle.moves.specs.Components.{IsComponentList}
use Rattle.cell_order.specs.declared.OrderKind.{OrderKind}
use Rattle.cell_order.specs.Orders.{ordered}
use Rattle.row_check.specs.Walks.{AreShaped}
use Rattle.versions.specs.Databases.{component_at}
use Rattle.path_file.specs.declared.fault.DbError.{DbError}
use Rattle.path_file.specs.declared.head.Head.{Head}
use Rattle.path_file.specs.Files.{head_bytes, ground_bytes, comps_bytes, rows_bytes}
use Rattle.path_file.specs.Fields.{AreComps, AreFileRows, IsHead, Known, free_in, map_from, rows_at}
use Rattle.path_file.specs.Faults.{IsRefusal}
use Rattle.path_file.specs.Readings.{Reading, ArePartsRefused, AreRowsNext, IsReady, IsRowsRefusal, Parted, Passes, front, no_part}

-- rows of the right number are shaped
pub shaped : (cells : List Cell) (rows : List (List Run)) (size : ℕ) → length cells ≡ size → AreFileRows size rows → AreShaped cells rows
shaped cells rows size is p =
    subst (λ n. AreFileRows n rows → AreShaped cells rows) is (λ q. record {
      whole = q.whole;
      each = λ source within. (q.each source [] (omega (arith, q.whole))).is_row;
      moves = λ source within. (q.each source [] (omega (arith, q.whole))).moves;
    }) p

-- the rows of parts
abbrev pub rows_in : List Parted → List (List (List Run))
rows_in parts = map (λ part. part.rows) parts

pub rows_in_at : (parts : List Parted) (label : ℕ) → label < length parts → rows_at (rows_in parts) label ≡ (get_or parts label no_part).rows
rows_in_at parts label less = get_or-map (λ (part : Parted). part.rows) parts label no_part [] less

-- the rows of parts, as what is known of a file
pub comps_known : (head : Head) (m : Map) → IsHead head → m ≡ map_from head m.terrain → length m.terrain ≡ m.width * m.height → free_in m.terrain ≤ MAX_PASSABLE
    → (components : List (List Cell)) → IsComponentList m components → (parts : List Parted) → length parts ≤ length components
    → ((label : ℕ) → label < length parts → AreFileRows (length (component_at components label)) (get_or parts label no_part).rows)
    → AreComps head m.terrain (rows_in parts) components
comps_known head m is from whole few components listed parts within rows =
    let long = length-map parts (λ (q : Parted). q.rows) in
    record {
      sides = is;
      whole = whole ∙ ap (λ (n : Map). n.width * n.height) from;
      few = few;
      listed = subst (λ n. IsComponentList n components) from listed;
      within = omega arith;
      each = λ label less.
          (let inside : label < length parts = omega arith in
          subst (AreFileRows (length (component_at components label))) (sym (rows_in_at parts label inside)) (rows label inside));
    }

-- the first components are read
pub record ArePartsTo (old now : Reading) (order : OrderKind) (components : List (List Cell)) (parts : List Parted) (done : ℕ) : Type 0 where
  pub read : Passes old now (comps_bytes (rows_in parts))
  pub many : length parts ≡ done
  pub cells : (label : ℕ) → label < length parts → (get_or parts label no_part).cells ≡ ordered order (component_at components label)
  pub rows : (label : ℕ) → label < length parts → AreFileRows (length (component_at components label)) (get_or parts label no_part).rows
  pub ready : All IsReady parts

pub parts_none : (old : Reading) (order : OrderKind) (components : List (List Cell)) (parts : List Parted) → parts ≡ [] → ArePartsTo old old order components parts 0
parts_none old order components parts none =
    subst (λ ps. ArePartsTo old old order components ps 0) (sym none) (record {
      read = record { same = refl; front = sym (append-nil (front old)) };
      many = refl;
      cells = λ label less. absurd (omega arith);
      rows = λ label less. absurd (omega arith);
      ready = λ k d less. absurd (omega arith);
    })

module _ (old now : Reading) (order : OrderKind) (components : List (List Cell)) (parts : List Parted) (done : ℕ)
    (p : ArePartsTo old now order components parts done) where
  pub parts_more : (after : Reading) (part : Parted) (more : List Parted) → Passes now after (rows_bytes part.rows)
      → part.cells ≡ ordered order (component_at components done) → AreFileRows (length (component_at components done)) part.rows → IsReady part
      → more ≡ parts ++ part ∷ [] → ArePartsTo old after order components more (done + 1)
  parts_more after part more passed cells rows ready is =
      subst (λ ps. ArePartsTo old after order components ps (done + 1)) (sym is) (record {
        read = record {
          same = passed.same ∙ p.read.same;
          front = passed.front ∙ ap (λ l. l ++ rows_bytes part.rows) p.read.front ∙ append_assoc (front old) (comps_bytes (rows_in parts)) (rows_bytes part.rows)
              ∙ ap (λ l. front old ++ (comps_bytes (rows_in parts) ++ l)) (sym (append-nil (rows_bytes part.rows)))
              ∙ ap (λ l. front old ++ l) (sym (flat_map-append rows_bytes (rows_in parts) (part.rows ∷ [])))
              ∙ ap (λ rs. front old ++ comps_bytes rs) (sym (map-append (λ (q : Parted). q.rows) parts (part ∷ [])));
        };
        many = length_push parts part ∙ ap (λ n. n + 1) p.many;
        cells = λ label less. at_each (λ n q. q.cells ≡ ordered order (component_at components n)) part p.cells cells label less;
        rows = λ label less. at_each (λ n q. AreFileRows (length (component_at components n)) q.rows) part p.rows rows label less;
        ready = All-push IsReady parts part p.ready ready;
      })
    where
      at_each : (P : ℕ → Parted → Type 0) (part : Parted) → ((label : ℕ) → label < length parts → P label (get_or parts label no_part)) → P done part
          → (label : ℕ) → label < length (parts ++ part ∷ []) → P label (get_or (parts ++ part ∷ []) label no_part)
      at_each P part before here label less =
          let size = length_push parts part in
          elim (cases_lt label (length parts)) [
            | inl early ↦ subst (P label) (sym (get_or_append_left parts (part ∷ []) no_part label early)) (before label early)
            | inr late ↦
                let last : length parts ≡ label = omega arith in
                subst (P label) (sym (get_or_push parts part no_part label last)) (subst (λ n. P n part) (sym p.many ∙ last) here)
          ]

  pub parts_refused : (m : Map) → length m.terrain ≡ m.width * m.height → free_in m.terrain ≤ MAX_PASSABLE → IsComponentList m components → done < length components
      → (cells : ℕ) → cells ≡ length (component_at components done) → 0 < cells
      → (error : DbError) → IsRowsRefusal now done cells error → ArePartsRefused old m error
  parts_refused m whole few listed less cells size some error wrong head is from at =
      let long = length-map parts (λ (q : Parted). q.rows) in
      let number : done ≡ length (rows_in parts) = omega (arith, long, p.many) in
      let known : Known = record { head = head; ground = m.terrain; comps = rows_in parts; rows = [] } in
      let next : AreRowsNext now done cells known = record {
        front = p.read.front ∙ ap (λ l. l ++ comps_bytes (rows_in parts)) at ∙ sym (append-nil ((head_bytes head ++ ground_bytes m.terrain) ++ comps_bytes (rows_in parts)));
        reached = record {
          components = components;
          before = comps_known head m is from whole few components listed parts (omega (arith, p.many)) p.rows;
          inside = omega arith;
          size = size ∙ ap (λ n. length (component_at components n)) number;
          each = λ k d within. absurd (omega arith);
          fewer = some;
        };
        comp_is = number;
        none = refl;
      } in
      subst (λ bytes. IsRefusal bytes error) p.read.same (wrong known next)
