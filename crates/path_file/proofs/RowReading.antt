-- The rows of a component, as they are read.
use Rattle.std.proofs.Common.{◌≡◌, ℕ, ◌+◌, ◌^◌, ◌<◌, ◌≤◌, ◌⊎◌, List, [], ◌∷◌, ◌++◌, length, take, set, replicate, map, All, refl, sym, ap, ◌∙◌, subst, inl, inr, append_assoc, arith}
use Rattle.std.proofs.lemmas.List.{append-nil, length_push, length-map, length-replicate, length-set, length-take-le, map-append, get_or-replicate, get_or_past, get_or-set_other, take_all, take_more_set}
use Rattle.std.proofs.lemmas.Bool.{cases_lt}
use Rattle.std.proofs.lemmas.List.Concat.{flat_map-append}
use Rattle.std.proofs.lemmas.List.Elements.{All-push}
use Rattle.run_pack.specs.declared.Run.{Run}
use Rattle.run_pack.specs.Runs.{run_of_word, word_of}
use Rattle.run_pack.proofs.Words.{word_of-run_of_word}
use Rattle.row_store.specs.Rows.{row_at}
use Rattle.path_file.specs.declared.fault.DbError.{DbError}
use Rattle.path_file.specs.declared.fault.DbFault.{DbFault}
use Rattle.path_file.specs.declared.fault.DbFault.TheVariants as why
use Rattle.path_file.specs.declared.rows.RowPlace.{RowPlace}
use Rattle.path_file.specs.Files.{head_bytes, ground_bytes, comps_bytes, number_bytes, row_bytes, rows_bytes, run_bytes, runs_bytes}
use Rattle.path_file.specs.Fields.{AreFileRows, AreRunsSoFar, IsFileRow, at_count, at_word, known_bytes, with_rows}
use Rattle.path_file.specs.Faults.{IsFirstDbFault, IsRefusal}
use Rattle.path_file.specs.Readings.{Reading, IsCutAt, IsRowFault, IsRowNext, IsRowRefusal, IsRowsRefusal, IsRunFault, Passes, front}
use Rattle.path_file.proofs.Opening.{cut_here, number_here}

-- ---- how many runs

pub count_cut : (r : Reading) (place : RowPlace) (fault : DbFault) → IsCutAt r 4 fault → IsRowFault r place fault
count_cut r place fault cut known next = cut_here r (at_count known place.cells) next.reached next.front fault 4 refl cut

pub count_bad : (r after : Reading) (place : RowPlace) (count : ℕ) (fault : DbFault) → count < 2 ^ 32 → Passes r after (number_bytes count)
    → ((count ≡ 0) ⊎ (place.cells < count)) → fault ≡ why.Runs place.comp place.source → IsRowFault r place fault
count_bad r after place count fault fits passed bad is known next =
    subst (IsFirstDbFault r.bytes) (sym is) (inl (record {
      known = known;
      cells = place.cells;
      comp_is = next.comp;
      source_is = next.source;
      field = number_here r (at_count known place.cells) next.reached next.front after count (λ n. (n ≡ 0) ⊎ (place.cells < n)) fits passed bad;
    }))

-- ---- a run

pub run_cut : (r : Reading) (place : RowPlace) (count : ℕ) (runs : List Run) (fault : DbFault) → IsCutAt r 4 fault → IsRunFault r place count runs fault
run_cut r place count runs fault cut known next =
    cut_here r (at_word known place.cells count runs) (next.reached, next.so_far) next.front fault 4 refl cut

pub run_bad : (r after : Reading) (place : RowPlace) (count : ℕ) (runs : List Run) (word : ℕ) (fault : DbFault) → word < 2 ^ 32 → Passes r after (number_bytes word)
    → (IsFileRow place.cells (runs ++ run_of_word word ∷ []) → ⊥) → fault ≡ why.Runs place.comp place.source → IsRunFault r place count runs fault
run_bad r after place count runs word fault fits passed bad is known next =
    subst (IsFirstDbFault r.bytes) (sym is) (inr (record {
      known = known;
      cells = place.cells;
      count = count;
      runs = runs;
      comp_is = next.comp;
      source_is = next.source;
      field = number_here r (at_word known place.cells count runs) (next.reached, next.so_far) next.front after word
          (λ w. IsFileRow place.cells (runs ++ run_of_word w ∷ []) → ⊥) fits passed bad;
    }))

-- ---- a row

-- so many runs of a row are read, as words
pub record IsRowTo (old now : Reading) (cells count : ℕ) (words : List ℕ) (done : ℕ) : Type 0 where
  pub read : Passes old now (number_bytes count ++ runs_bytes (map run_of_word words))
  pub many : length words ≡ done
  pub row : 0 < length words → IsFileRow cells (map run_of_word words)

pub row_none : (old now : Reading) (cells count : ℕ) (words : List ℕ) → words ≡ [] → Passes old now (number_bytes count) → IsRowTo old now cells count words 0
row_none old now cells count words none passed =
    subst (λ ws. IsRowTo old now cells count ws 0) (sym none) (record {
      read = record { same = passed.same; front = passed.front ∙ ap (λ l. front old ++ l) (sym (append-nil (number_bytes count))) };
      many = refl;
      row = λ some. absurd (omega arith);
    })

runs_pushed : (words : List ℕ) (word : ℕ) → runs_bytes (map run_of_word (words ++ word ∷ [])) ≡ runs_bytes (map run_of_word words) ++ number_bytes word
runs_pushed words word =
    ap runs_bytes (map-append run_of_word words (word ∷ [])) ∙ flat_map-append run_bytes (map run_of_word words) (run_of_word word ∷ [])
    ∙ ap (λ l. runs_bytes (map run_of_word words) ++ l) (append-nil (number_bytes (word_of (run_of_word word))))
    ∙ ap (λ w. runs_bytes (map run_of_word words) ++ number_bytes w) (word_of-run_of_word word)

module _ (old now : Reading) (cells count : ℕ) (words : List ℕ) (done : ℕ) (p : IsRowTo old now cells count words done) where
  pub row_more : (after : Reading) (word : ℕ) (more : List ℕ) → Passes now after (number_bytes word)
      → IsFileRow cells (map run_of_word words ++ run_of_word word ∷ []) → more ≡ words ++ word ∷ [] → IsRowTo old after cells count more (done + 1)
  row_more after word more passed row is =
      subst (λ ws. IsRowTo old after cells count ws (done + 1)) (sym is) (record {
        read = record {
          same = passed.same ∙ p.read.same;
          front = passed.front ∙ ap (λ l. l ++ number_bytes word) p.read.front ∙ append_assoc (front old) (number_bytes count ++ runs_bytes (map run_of_word words)) (number_bytes word)
              ∙ ap (λ l. front old ++ l) (append_assoc (number_bytes count) (runs_bytes (map run_of_word words)) (number_bytes word)
              ∙ ap (λ l. number_bytes count ++ l) (sym (runs_pushed words word)));
        };
        many = length_push words word ∙ ap (λ n. n + 1) p.many;
        row = λ some. subst (IsFileRow cells) (sym (map-append run_of_word words (word ∷ []))) row;
      })

  pub row_refused : (place : RowPlace) (error : DbFault) → place.cells ≡ cells → 0 < count → count ≤ cells → done < count
      → IsRunFault now place count (map run_of_word words) error → IsRowFault old place error
  row_refused place error same_cells some few less wrong known next =
      let size = length-map words run_of_word in
      subst (λ bytes. IsFirstDbFault bytes error) p.read.same (wrong known (record {
        front = p.read.front ∙ ap (λ l. l ++ (number_bytes count ++ runs_bytes (map run_of_word words))) next.front
            ∙ sym (append_assoc (known_bytes known) (number_bytes count) (runs_bytes (map run_of_word words)));
        reached = next.reached;
        so_far = subst (λ n. AreRunsSoFar n count (map run_of_word words)) (sym same_cells) (record {
          some = some;
          limit = few;
          fewer = omega (arith, p.many);
          row = λ any. p.row (omega arith);
        });
        comp = next.comp;
        source = next.source;
      }))

  pub row_all : count ≤ done → 0 < count → length words ≡ count → IsFileRow cells (map run_of_word words)
  row_all end some whole = p.row (omega arith)

  pub row_whole : length words ≡ count → Passes old now (row_bytes (map run_of_word words))
  row_whole whole =
      let size : count ≡ length (map run_of_word words) = sym (length-map words run_of_word ∙ whole) in
      subst (λ n. Passes old now (number_bytes n ++ runs_bytes (map run_of_word words))) size p.read

-- ---- the rows of a component

-- the rows of so many sources are read, and the others are blank
pub record AreRowsTo (old now : Reading) (cells : ℕ) (rows : List (List Run)) (done : ℕ) : Type 0 where
  pub read : Passes old now (rows_bytes (take done rows))
  pub whole : length rows ≡ cells
  pub each : All (IsFileRow cells) (take done rows)
  pub blank : (place : ℕ) → done ≤ place → row_at rows place ≡ []

pub rows_none : (old : Reading) (cells : ℕ) (rows : List (List Run)) → rows ≡ replicate cells [] → AreRowsTo old old cells rows 0
rows_none old cells rows blank = record {
  read = record { same = refl; front = sym (append-nil (front old)) };
  whole = ap length blank ∙ length-replicate cells [];
  each = λ k d within. absurd (omega arith);
  blank = λ place none. ap (λ rs. row_at rs place) blank ∙ blank_row cells place;
}
  where
    blank_row : (n place : ℕ) → row_at (replicate n []) place ≡ []
    blank_row n place =
        elim (cases_lt place n) [
          | inl inside ↦ get_or-replicate n place [] [] inside
          | inr past ↦ get_or_past (replicate n []) place [] (omega (arith, length-replicate {A = List Run} n []))
        ]

module _ (old now : Reading) (cells : ℕ) (rows : List (List Run)) (done : ℕ) (p : AreRowsTo old now cells rows done) (less : done < cells) where
  pub rows_more : (after : Reading) (row : List Run) (more : List (List Run)) → Passes now after (row_bytes row) → IsFileRow cells row
      → more ≡ set rows done row → AreRowsTo old after cells more (done + 1)
  rows_more after row more passed shaped is =
      let step = take_more_set rows done row (omega (arith, p.whole)) in
      subst (λ rs. AreRowsTo old after cells rs (done + 1)) (sym is) (record {
        read = record {
          same = passed.same ∙ p.read.same;
          front = passed.front ∙ ap (λ l. l ++ row_bytes row) p.read.front ∙ append_assoc (front old) (rows_bytes (take done rows)) (row_bytes row)
              ∙ ap (λ l. front old ++ (rows_bytes (take done rows) ++ l)) (sym (append-nil (row_bytes row)))
              ∙ ap (λ l. front old ++ l) (sym (flat_map-append row_bytes (take done rows) (row ∷ [])))
              ∙ ap (λ rs. front old ++ rows_bytes rs) (sym step);
        };
        whole = length-set rows done row ∙ p.whole;
        each = subst (All (IsFileRow cells)) (sym step) (All-push (IsFileRow cells) (take done rows) row p.each shaped);
        blank = λ place past. get_or-set_other rows done place row [] (omega arith) ∙ p.blank place (omega arith);
      })

  pub rows_refused : (comp : ℕ) (place : RowPlace) (error : DbError) → place ≡ record { comp = comp; source = done; cells = cells }
      → IsRowRefusal now place error → IsRowsRefusal old comp cells error
  rows_refused comp place error at wrong known next =
      let none : known_bytes known ++ rows_bytes (take done rows) ≡ known_bytes (with_rows known (take done rows)) =
      ap (λ l. l ++ rows_bytes (take done rows))
      (ap (λ rs. ((head_bytes known.head ++ ground_bytes known.ground) ++ comps_bytes known.comps) ++ rows_bytes rs) next.none
      ∙ append-nil ((head_bytes known.head ++ ground_bytes known.ground) ++ comps_bytes known.comps)) in
      let size = length-take-le done rows (omega (arith, p.whole)) in
      let so : IsRowNext now (record { comp = comp; source = done; cells = cells }) (with_rows known (take done rows)) = record {
        front = p.read.front ∙ ap (λ l. l ++ rows_bytes (take done rows)) next.front ∙ none;
        reached = record {
          components = next.reached.components;
          before = next.reached.before;
          inside = next.reached.inside;
          size = next.reached.size;
          each = p.each;
          fewer = omega arith;
        };
        comp = next.comp_is;
        source = sym size;
      } in
      subst (λ bytes. IsRefusal bytes error) p.read.same
      (wrong (with_rows known (take done rows)) (subst (λ pl. IsRowNext now pl (with_rows known (take done rows))) (sym at) so))

module _ (old now : Reading) (cells : ℕ) (rows : List (List Run)) (done : ℕ) (p : AreRowsTo old now cells rows done) (end : cells ≤ done) where
  all_rows : take done rows ≡ rows
  all_rows = take_all done rows (omega (arith, p.whole))

  pub rows_passed : Passes old now (rows_bytes rows)
  rows_passed = subst (λ rs. Passes old now (rows_bytes rs)) all_rows p.read

  pub rows_shaped : AreFileRows cells rows
  rows_shaped = record { whole = p.whole; each = subst (All (IsFileRow cells)) all_rows p.each }
