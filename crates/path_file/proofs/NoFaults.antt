-- The file of a version has no fault, and it is the file of no other version.
use Rattle.std.proofs.Common.{◌≡◌, ℕ, suc, ◌+◌, ◌*◌, ◌^◌, ◌<◌, ◌≤◌, ◌⊎◌, cond, List, [], ◌∷◌, ◌++◌, length, get_or, take, drop, refl, sym, ap, ◌∙◌, subst, inl, inr, append_assoc, arith}
use Rattle.std.proofs.Math.Seq.{drop-cons}
use Rattle.std.proofs.lemmas.List.{append-nil, drop_all, get_or-map, get_or-take, length-append, length-map, length-take-le, take_all, take_at, take_more}
use Rattle.std.proofs.lemmas.List.Sums.{sum_by_more_le}
use Rattle.run_pack.specs.declared.Run.{Run}
use Rattle.run_pack.specs.Runs.{no_run, run_of_word, start_at, word_of}
use Rattle.run_pack.proofs.RowLemmas.{length-row, start_at-inside, start_at-lt}
use Rattle.run_pack.proofs.Words.{run_of_word-word_of}
use Rattle.moves.specs.declared.Terrain.{Terrain}
use Rattle.moves.specs.declared.Terrain.TheVariants.{Blocked, Land, Water}
use Rattle.moves.specs.declared.TheConstants.{MAX_PASSABLE}
use Rattle.moves.specs.Maps.{Map, IsWithinLimits, is_passable}
use Rattle.cell_order.specs.declared.OrderKind.{OrderKind}
use Rattle.cell_order.specs.declared.OrderKind.TheVariants.{Rows, Dfs}
use Rattle.cell_order.specs.Orders.{kind_of, ordered}
use Rattle.cell_order.proofs.Numbers.{kind_small}
use Rattle.row_store.specs.Comps.{Comp}
use Rattle.row_store.specs.Rows.{AreRows}
use Rattle.row_check.specs.declared.RowFault.{RowFault}
use Rattle.row_check.specs.declared.RowFault.TheVariants as row
use Rattle.row_check.specs.Faults.{RightRowsHaveNoFault}
use Rattle.versions.specs.Databases.{Versioned, IsDatabase, component_at, comp_at, no_comp}
use Rattle.versions.proofs.Databases.{databases_are_determined}
use Rattle.path_file.specs.declared.fault.DbFault.{DbFault}
use Rattle.path_file.specs.declared.fault.DbFault.TheVariants as why
use Rattle.path_file.specs.declared.head.Head.{Head}
use Rattle.path_file.specs.Files.{HasFile, comps_bytes, file_of, ground_bytes, head_bytes, head_of, mark, number_bytes, row_bytes, rows_bytes, rows_of, run_bytes, runs_bytes, terrain_byte}
use Rattle.path_file.specs.Fields.{Field, AreAllComps, AreFileRows, AreRowsSoFar, AreRunsSoFar, IsFileRow, IsGroundSoFar, IsReached, IsSide, Known, at_mark, at_width, at_height, at_prefix, at_order, at_ground, at_count, at_word, at_end, free_in, front_of, known_bytes, rows_at, size_of}
use Rattle.path_file.specs.Faults.{IsBadCount, IsBadRows, IsBadRun, IsFirstDbFault}
use Rattle.path_file.specs.Laws.{FilesAreOfOneVersion, FilesOfVersionsHaveNoFault}
use Rattle.path_file.proofs.Aligning.{aligned}
use Rattle.path_file.proofs.CellLemmas.{count_is_free}
use Rattle.path_file.proofs.LawLemmas.{AreKeptRows, AreKeptRuns, IsOwn, after_comps, after_ground, after_height, after_mark, after_prefix, after_width, components, kept_row, kept_rows, own_rows, own_size, own_width, own_height, own_prefix, own_order, rows_apart, runs_apart, same_head, whole_is, few_cells}
use Rattle.path_file.proofs.LengthLemmas.{length-file}
use Rattle.path_file.proofs.Numbers.{length-number, numbers_first}
use Rattle.path_file.proofs.RowLemmas.{row_from_starts}

-- the first runs of a row are a row
row_front : (cells : ℕ) (row : List Run) (count : ℕ) → IsFileRow cells row → 0 < count → count ≤ length row → IsFileRow cells (take count row)
row_front cells row count p some within =
    let size = length-take-le count row within in
    let at : (k : ℕ) → k < count → start_at (take count row) k ≡ start_at row k = λ k less. ap (λ (r : Run). r.start) (get_or-take count row k no_run less) in
    record {
      is_row = row_from_starts (take count row) cells (omega arith) (at 0 some ∙ p.is_row.rises.first)
          (λ k less. omega (arith, at k (omega arith), at (k + 1) (omega arith), start_at-lt row p.is_row.rises k (omega arith)))
          (λ k less. omega (arith, at k (omega arith), start_at-inside row cells p.is_row k (omega arith)));
      moves = λ k d less. subst (λ (r : Run). r.mv < 8) (sym (get_or-take count row k d (omega arith))) (p.moves k d (omega arith));
    }

-- a row of the version comes next
record IsOwnRow (cells : ℕ) (rest : List ℕ) : Type 0 where
  row : List Run
  more : List ℕ
  few : cells ≤ MAX_PASSABLE
  shaped : IsFileRow cells row
  is : rest ≡ row_bytes row ++ more

-- a run of the version comes next, behind these
record IsOwnRun (cells : ℕ) (runs : List Run) (rest : List ℕ) : Type 0 where
  run : Run
  more : List ℕ
  word : word_of run < 2 ^ 32
  move : run.mv < 8
  shaped : IsFileRow cells (runs ++ run ∷ [])
  is : rest ≡ run_bytes run ++ more

terrain_small : (t : Terrain) → terrain_byte t ≤ 2
terrain_small Blocked = omega arith
terrain_small Land = omega arith
terrain_small Water = omega arith

free_if : (t : Terrain) → (terrain_byte t ≡ 1) ⊎ (terrain_byte t ≡ 2) → cond {A = ℕ} (is_passable t) 1 0 ≡ 1
free_if Blocked (inl e) = absurd (omega (arith, e))
free_if Blocked (inr e) = absurd (omega (arith, e))
free_if Land e = refl
free_if Water e = refl

module _ (v : Versioned) (p : HasFile v) where
  rows_before : (known : Known) (rest : List ℕ) → file_of v ≡ known_bytes known ++ rest
      → file_of v ≡ ((head_bytes known.head ++ ground_bytes known.ground) ++ comps_bytes known.comps) ++ (rows_bytes known.rows ++ rest)
  rows_before known rest same = same ∙ append_assoc ((head_bytes known.head ++ ground_bytes known.ground) ++ comps_bytes known.comps) (rows_bytes known.rows) rest

  next_row : (known : Known) (cells : ℕ) (rest : List ℕ) → AreRowsSoFar known cells → file_of v ≡ known_bytes known ++ rest → IsOwnRow cells rest
  next_row known cells rest so same =
      let own = after_comps v p known.head known.ground known.comps so.components (rows_bytes known.rows ++ rest) so.before (rows_before known rest same) in
      let n = length known.comps in
      let given : length so.components ≡ length (components v p) = ap length own.given_is in
      let inside : length known.comps < length (components v p) = omega (arith, so.inside, given) in
      let there : length known.comps < length (rows_of v) = omega (arith, inside, own_size v p) in
      let mine = rows_at (rows_of v) (length known.comps) in
      let size : cells ≡ length (component_at (components v p) (length known.comps)) = so.size ∙ ap (λ cs. length (component_at cs (length known.comps))) own.given_is in
      let shaped : AreFileRows cells (rows_at (rows_of v) (length known.comps)) =
      subst (λ m. AreFileRows m (rows_at (rows_of v) (length known.comps))) (sym size) (own_rows v p (length known.comps) inside) in
      let few : cells ≤ MAX_PASSABLE = omega (arith, size, few_cells v p (length known.comps) inside) in
      let less : length known.rows < length (rows_at (rows_of v) (length known.comps)) = omega (arith, so.fewer, shaped.whole) in
      let later = comps_bytes (drop (suc (length known.comps)) (rows_of v)) in
      let rows = aligned row_bytes AreKeptRows rows_apart known.rows (rows_at (rows_of v) (length known.comps)) rest later (omega arith)
      (λ k d within. record { left = kept_rows cells known.rows few so.each k d within; right = kept_rows cells (rows_at (rows_of v) (length known.comps)) few shaped.each k d (omega arith) })
      (own.behind ∙ ap comps_bytes (drop-cons (rows_of v) (length known.comps) [] there)) in
      let at = length known.rows in
      record {
        row = get_or (rows_at (rows_of v) (length known.comps)) (length known.rows) [];
        more = rows_bytes (drop (suc (length known.rows)) (rows_at (rows_of v) (length known.comps))) ++ later;
        few = few;
        shaped = shaped.each (length known.rows) [] less;
        is = rows.behind ∙ ap (λ rs. rows_bytes rs ++ later) (drop-cons (rows_at (rows_of v) (length known.comps)) (length known.rows) [] less)
            ∙ append_assoc (row_bytes (get_or (rows_at (rows_of v) (length known.comps)) (length known.rows) []))
            (rows_bytes (drop (suc (length known.rows)) (rows_at (rows_of v) (length known.comps)))) later;
      }

  next_run : (known : Known) (cells count : ℕ) (runs : List Run) (rest : List ℕ) → AreRowsSoFar known cells → AreRunsSoFar cells count runs
      → file_of v ≡ ((known_bytes known ++ number_bytes count) ++ runs_bytes runs) ++ rest → IsOwnRun cells runs rest
  next_run known cells count runs rest so some same =
      let own = next_row known cells (number_bytes count ++ (runs_bytes runs ++ rest)) so
      (same ∙ append_assoc (known_bytes known ++ number_bytes count) (runs_bytes runs) rest ∙ append_assoc (known_bytes known) (number_bytes count) (runs_bytes runs ++ rest)) in
      let long : length own.row ≤ cells = length-row own.row cells own.shaped.is_row in
      let both = numbers_first count (length own.row) (runs_bytes runs ++ rest) (runs_bytes own.row ++ own.more) (omega (arith, some.limit, own.few)) (omega (arith, own.few))
      (own.is ∙ append_assoc (number_bytes (length own.row)) (runs_bytes own.row) own.more) in
      let less : length runs < length own.row = omega (arith, some.fewer, both.0) in
      let kept = kept_row cells own.row own.few own.shaped in
      let first = aligned run_bytes AreKeptRuns runs_apart runs own.row rest own.more (omega arith)
      (λ k d within. record {
        left = (kept_row cells runs own.few (some.row (omega arith))).each k d within;
        right = kept.each k d (omega arith);
      })
      both.1 in
      let run = get_or own.row (length runs) no_run in
      let taken : take (length runs + 1) own.row ≡ runs ++ get_or own.row (length runs) no_run ∷ [] =
      take_more own.row (length runs) no_run less ∙ ap (λ rs. rs ++ get_or own.row (length runs) no_run ∷ []) (sym first.front) in
      record {
        run = get_or own.row (length runs) no_run;
        more = runs_bytes (drop (suc (length runs)) own.row) ++ own.more;
        word = (kept.each (length runs) no_run less).word;
        move = (kept.each (length runs) no_run less).move;
        shaped = subst (IsFileRow cells) taken (row_front cells own.row (length runs + 1) own.shaped (omega arith) (omega arith));
        is = first.behind ∙ ap (λ rs. runs_bytes rs ++ own.more) (drop-cons own.row (length runs) no_run less)
            ∙ append_assoc (run_bytes (get_or own.row (length runs) no_run)) (runs_bytes (drop (suc (length runs)) own.row)) own.more;
      }

  -- all is read: nothing is left
  at_the_end : (known : Known) (rest : List ℕ) (all : AreAllComps known) → file_of v ≡ known_bytes known ++ rest
      → IsOwn v p known.head known.ground known.comps all.components (rows_bytes known.rows ++ rest)
  at_the_end known rest all same = after_comps v p known.head known.ground known.comps all.components (rows_bytes known.rows ++ rest) all.before (rows_before known rest same)

  nothing_left : (known : Known) (rest : List ℕ) → AreAllComps known → file_of v ≡ known_bytes known ++ rest → length rest ≡ 0
  nothing_left known rest all same =
      let own = at_the_end known rest all same in
      let size : length known.comps ≡ length (rows_of v) = all.all ∙ ap length own.given_is ∙ sym (own_size v p) in
      let none : drop (length known.comps) (rows_of v) ≡ [] = drop_all (length known.comps) (rows_of v) (omega arith) in
      let empty : rows_bytes known.rows ++ rest ≡ [] = own.behind ∙ ap comps_bytes none in
      let alone : rest ≡ [] = ap (λ rs. rows_bytes rs ++ rest) (sym all.none) ∙ empty in
      ap length alone

  -- the terrain of a cell of the version comes next
  record IsOwnTerrain (cells : List Terrain) (rest : List ℕ) : Type 0 where
    cell : Terrain
    more : List ℕ
    is : rest ≡ terrain_byte cell ∷ more
    few : free_in cells + cond {A = ℕ} (is_passable cell) 1 0 ≤ MAX_PASSABLE

  own_terrain : (head : Head) (cells : List Terrain) (rest : List ℕ) → IsGroundSoFar head cells → file_of v ≡ (head_bytes head ++ ground_bytes cells) ++ rest → IsOwnTerrain cells rest
  own_terrain head cells rest so same =
      let inside = so.inside in
      let own = after_ground v p head cells rest so.sides (omega arith) same in
      let size : head.width * head.height ≡ v.map.width * v.map.height = ap (λ (h : Head). h.width * h.height) own.0 in
      let less : length cells < length v.map.terrain = omega (arith, p.whole) in
      let most = sum_by_more_le (λ t. cond {A = ℕ} (is_passable t) 1 0) v.map.terrain (length cells) Blocked less in
      record {
        cell = get_or v.map.terrain (length cells) Blocked;
        more = ground_bytes (drop (suc (length cells)) v.map.terrain) ++ comps_bytes (rows_of v);
        is = own.2 ∙ ap (λ ts. ground_bytes ts ++ comps_bytes (rows_of v)) (drop-cons v.map.terrain (length cells) Blocked less);
        few = (let same_free : free_in cells ≡ free_in (take (length cells) v.map.terrain) = ap free_in own.1 in
            omega (arith, most, same_free, count_is_free v.map, p.is_version.searchable));
      }

  -- ---- no field is cut

  no_cut : (field : Field) → IsReached field → (rest : List ℕ) → file_of v ≡ front_of field ++ rest → size_of field ≤ length rest
  no_cut at_mark is rest same = omega (arith, ap length same, length-file v)
  no_cut at_width is rest same =
      omega (arith, ap length (after_mark v p rest same), length-append (number_bytes v.map.width) (own_height v p), length-number v.map.width)
  no_cut (at_height width) is rest same =
      omega (arith, ap length (after_width v p width rest (omega (arith, is.limit)) same).1, length-append (number_bytes v.map.height) (own_prefix v p), length-number v.map.height)
  no_cut (at_prefix width height) is rest same =
      omega (arith, ap length (after_height v p width height rest (omega (arith, is.columns)) (omega (arith, is.rows)) same).2, length-append (number_bytes v.prefix) (own_order v p), length-number v.prefix)
  no_cut (at_order width height prefix) is rest same =
      omega (arith, ap length (after_prefix v p width height prefix rest (omega (arith, is.0.columns)) (omega (arith, is.0.rows)) is.1 same).3)
  no_cut (at_ground head cells) is rest same =
      let own = own_terrain head cells rest is same in
      omega (arith, ap length own.is)
  no_cut (at_count known cells) is rest same =
      let own = next_row known cells rest is same in
      omega (arith, ap length own.is, length-append (row_bytes own.row) own.more, length-append (number_bytes (length own.row)) (runs_bytes own.row), length-number (length own.row))
  no_cut (at_word known cells count runs) is rest same =
      let own = next_run known cells count runs rest is.0 is.1 same in
      omega (arith, ap length own.is, length-append (run_bytes own.run) own.more, length-number (word_of own.run))
  no_cut (at_end known) is rest same = omega arith

  -- ---- no field is wrong

  -- a row of a component is right
  no_bad_rows : RightRowsHaveNoFault → (comp : ℕ) (fault : RowFault) → IsBadRows (file_of v) comp fault → ⊥
  no_bad_rows law comp fault bad =
      let known = bad.known in
      let own = at_the_end bad.known [] bad.all (bad.whole ∙ sym (append-nil (known_bytes bad.known))) in
      let size : length bad.known.comps ≡ length (rows_of v) = bad.all.all ∙ ap length own.given_is ∙ sym (own_size v p) in
      let comps : bad.known.comps ≡ rows_of v = own.comps_are ∙ take_all (length bad.known.comps) (rows_of v) (omega arith) in
      let inside : comp < length v.comps = omega (arith, bad.inside, size, length-map v.comps (λ comp. comp.rows)) in
      let kept = p.is_version.database.each comp inside in
      let cells : (comp_at v.comps comp).cells ≡ ordered bad.known.head.order (component_at bad.all.components comp) =
      kept.cells ∙ ap (λ (h : Head). ordered h.order (component_at (components v p) comp)) (sym own.head_is)
      ∙ ap (λ cs. ordered bad.known.head.order (component_at cs comp)) (sym own.given_is) in
      let rows : (comp_at v.comps comp).rows ≡ rows_at bad.known.comps comp =
      sym (get_or-map (λ (c : Comp). c.rows) v.comps comp no_comp [] inside) ∙ ap (λ cs. rows_at cs comp) (sym comps) in
      let right : AreRows (ordered bad.known.head.order (component_at bad.all.components comp)) (rows_at bad.known.comps comp) =
      subst (λ cs. AreRows cs (rows_at bad.known.comps comp)) cells (subst (AreRows (comp_at v.comps comp).cells) rows kept.whole.rows) in
      law right.map (ordered bad.known.head.order (component_at bad.all.components comp)) (rows_at bad.known.comps comp) right right.just fault (bad.first right.map right.just)

  no_bad_count : (comp source : ℕ) → IsBadCount (file_of v) comp source → ⊥
  no_bad_count comp source bad =
      let field = bad.field in
      let own = next_row bad.known bad.cells field.rest field.reached field.split in
      let long : length own.row ≤ bad.cells = length-row own.row bad.cells own.shaped.is_row in
      let some = own.shaped.is_row.rises.some in
      let both = numbers_first field.so.number (length own.row) field.so.after (runs_bytes own.row ++ own.more) field.so.fits (omega (arith, own.few))
      (sym field.so.is ∙ own.is ∙ append_assoc (number_bytes (length own.row)) (runs_bytes own.row) own.more) in
      elim field.so.so [
        | inl none ↦ omega (arith, both.0, none)
        | inr many ↦ omega (arith, both.0, many)
      ]

  no_bad_run : (comp source : ℕ) → IsBadRun (file_of v) comp source → ⊥
  no_bad_run comp source bad =
      let field = bad.field in
      let own = next_run bad.known bad.cells bad.count bad.runs field.rest field.reached.0 field.reached.1 field.split in
      let both = numbers_first field.so.number (word_of own.run) field.so.after own.more field.so.fits own.word (sym field.so.is ∙ own.is) in
      let run : run_of_word field.so.number ≡ own.run = ap run_of_word both.0 ∙ run_of_word-word_of own.run own.move in
      field.so.so (subst (λ r. IsFileRow bad.cells (bad.runs ++ r ∷ [])) (sym run) own.shaped)

  no_fault : RightRowsHaveNoFault → (fault : DbFault) → IsFirstDbFault (file_of v) fault → ⊥
  no_fault law why.Magic bad =
      bad.so.other (ap (take 8) (sym bad.split ∙ whole_is v p) ∙ take_at mark (own_width v p) 8 refl)
  no_fault law why.Size (inl bad) =
      let both = numbers_first bad.so.number v.map.width bad.so.after (own_height v p) bad.so.fits (omega (arith, p.limits.columns)) (sym bad.so.is ∙ after_mark v p bad.rest bad.split) in
      bad.so.so (subst IsSide (sym both.0) (record { some = p.limits.some_columns; limit = p.limits.columns }))
  no_fault law why.Size (inr bad) =
      let field = bad.field in
      let own = after_width v p bad.width field.rest (omega (arith, field.reached.limit)) field.split in
      let both = numbers_first field.so.number v.map.height field.so.after (own_prefix v p) field.so.fits (omega (arith, p.limits.rows)) (sym field.so.is ∙ own.1) in
      field.so.so (subst (IsWithinLimits bad.width) (sym both.0) (subst (λ w. IsWithinLimits w v.map.height) (sym own.0) p.limits))
  no_fault law (why.Kind byte) bad =
      let field = bad.field in
      let is = field.reached in
      let own = after_prefix v p bad.width bad.height bad.prefix field.rest (omega (arith, is.0.columns)) (omega (arith, is.0.rows)) is.1 field.split in
      let same : byte ≡ kind_of v.order = same_head (sym field.so.is ∙ own.3) in
      omega (arith, bad.none, kind_small v.order)
  no_fault law (why.Terrain place byte) bad =
      let field = bad.field in
      let own = own_terrain bad.head bad.cells field.rest field.reached field.split in
      let same : byte ≡ terrain_byte own.cell = same_head (sym field.so.is ∙ own.is) in
      omega (arith, bad.none, terrain_small own.cell)
  no_fault law (why.TooManyCells place) bad =
      let field = bad.field in
      let own = own_terrain bad.head bad.cells field.rest field.reached field.split in
      let same : bad.byte ≡ terrain_byte own.cell = same_head (sym field.so.is ∙ own.is) in
      let free = free_if own.cell (subst (λ b. (b ≡ 1) ⊎ (b ≡ 2)) same bad.passable) in
      omega (arith, own.few, free, bad.full)
  no_fault law (why.Cut have) bad =
      let end = bad.1.end in
      let enough = no_cut bad.1.field end.reached end.rest end.split in
      omega (arith, enough, end.so)
  no_fault law (why.Runs comp source) (inl bad) = no_bad_count comp source bad
  no_fault law (why.Runs comp source) (inr bad) = no_bad_run comp source bad
  no_fault law (why.Extra from) bad =
      let field = bad.field in
      omega (arith, nothing_left bad.known field.rest field.reached field.split, field.so)
  no_fault law (why.Walk comp target source) bad = no_bad_rows law comp (row.Walk target source) bad
  no_fault law (why.Worse comp target source) bad = no_bad_rows law comp (row.Worse target source) bad
  no_fault law (why.Loose comp target source) bad = no_bad_rows law comp (row.Loose target source) bad

pub files_have_no_fault : RightRowsHaveNoFault → FilesOfVersionsHaveNoFault
files_have_no_fault law v p fault bad = no_fault v p law fault bad

-- ---- one version

same_maps : (a b : Map) → a.width ≡ b.width → a.height ≡ b.height → a.terrain ≡ b.terrain → a ≡ b
same_maps a b w h t = λ i. record { width = w i; height = h i; terrain = t i }

same_versions : (a b : Versioned) → a.map ≡ b.map → a.prefix ≡ b.prefix → a.order ≡ b.order → a.comps ≡ b.comps → a ≡ b
same_versions a b m n o c = λ i. record { map = m i; prefix = n i; order = o i; comps = c i }

pub files_of_one : FilesAreOfOneVersion
files_of_one a b p q same =
    let heads = after_ground b q (head_of a) a.map.terrain (comps_bytes (rows_of a)) (record { limits = p.limits; prefix = p.edits }) (omega (arith, p.whole)) (sym same) in
    let width : a.map.width ≡ b.map.width = ap (λ (h : Head). h.width) heads.0 in
    let height : a.map.height ≡ b.map.height = ap (λ (h : Head). h.height) heads.0 in
    let order : a.order ≡ b.order = ap (λ (h : Head). h.order) heads.0 in
    let size : a.map.width * a.map.height ≡ b.map.width * b.map.height = ap (λ (h : Head). h.width * h.height) heads.0 in
    let ground : a.map.terrain ≡ b.map.terrain = heads.1 ∙ take_all (length a.map.terrain) b.map.terrain (omega (arith, p.whole, q.whole)) in
    let maps = same_maps a.map b.map width height ground in
    let base : IsDatabase b.map b.order a.comps = subst (λ o. IsDatabase b.map o a.comps) order (subst (λ m. IsDatabase m a.order a.comps) maps p.is_version.database) in
    same_versions a b maps (ap (λ (h : Head). h.prefix) heads.0) order (databases_are_determined b.map b.order a.comps b.comps base q.is_version.database)
