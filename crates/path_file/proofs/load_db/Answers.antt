use Rattle.std.proofs.Common.{ℕ, List, ◌++◌, map, ap, subst, sym, ◌∙◌}
use Rattle.std.proofs.lemmas.Result.{err_from_is_err_and}
use Rattle.versions.specs.Databases.{Versioned}
use Rattle.path_file.specs.Files.{comps_bytes, file_of}
use Rattle.path_file.specs.Faults.{IsFirstDbFault, IsRefusal}
use Rattle.path_file.specs.Readings.{Parted}
use Rattle.path_file.proofs.LoadLemmas.{load_database, load_extra, load_file, load_wrong}
use Rattle.path_file.proofs.load_db.Goals as goal

pub returns-in_err-end-clause-fault : goal.returns-in_err-end-clause-fault
returns-in_err-end-clause-fault c =
    let p = err_from_is_err_and c.from_residual-in_err-end.result c.from_residual-in_err-end.ensures.1 in
    let parts = c.in_ok-parts.parts.items in
    let r = c.read_parts.new.reader in
    let grid = c.in_ok-grid.ensures in
    let front = c.in_ok-parts.ensures.rows.front ∙ ap (λ (l : List ℕ). l ++ comps_bytes (map (λ (q : Parted). q.rows) parts)) grid.front in
    let same = c.in_ok-parts.ensures.rows.same ∙ grid.same ∙ c.in_ok-head.ensures.same ∙ c.of-reader.ensures.bytes in
    let extra = load_extra r c.in_ok-head.head c.in_ok-grid.grid c.in_ok-labels.labels parts c.in_ok-head.ensures.head grid.map grid.whole grid.few c.in_ok-labels.ensures
    c.in_ok-parts.ensures.parts front _ c.in_err-end.ensures.fault c.in_err-end.ensures.more in
    rw (p.1, p.2) (subst (λ bytes. IsFirstDbFault bytes c.in_err-end.field-0.0) same extra)

pub returns-in_err-comps-clause-fault : goal.returns-in_err-comps-clause-fault
returns-in_err-comps-clause-fault c =
    let p = err_from_is_err_and c.from_residual-in_err-comps.result c.from_residual-in_err-comps.ensures.1 in
    let parts = c.in_ok-parts.parts.items in
    let r = c.read_parts.new.reader in
    let grid = c.in_ok-grid.ensures in
    let front = c.in_ok-parts.ensures.rows.front ∙ ap (λ (l : List ℕ). l ++ comps_bytes (map (λ (q : Parted). q.rows) parts)) grid.front in
    let same = c.in_ok-parts.ensures.rows.same ∙ grid.same ∙ c.in_ok-head.ensures.same ∙ c.of-reader.ensures.bytes in
    let wrong = load_wrong r c.in_ok-head.head c.in_ok-grid.grid c.in_ok-labels.labels parts c.in_ok-head.ensures.head grid.map grid.whole grid.few c.in_ok-labels.ensures
    c.in_ok-parts.ensures.parts front c.in_ok-end.ensures.end _ c.in_err-comps.ensures.fault in
    rw (p.1, p.2) (subst (λ bytes. IsRefusal bytes c.in_err-comps.field-0.0) same wrong)

pub assemble_labelled-requires-clause-database : goal.assemble_labelled-requires-clause-database
assemble_labelled-requires-clause-database c =
    let parts = c.in_ok-parts.parts.items in
    let r = c.read_parts.new.reader in
    let grid = c.in_ok-grid.ensures in
    let front = c.in_ok-parts.ensures.rows.front ∙ ap (λ (l : List ℕ). l ++ comps_bytes (map (λ (q : Parted). q.rows) parts)) grid.front in
    load_database r c.in_ok-head.head c.in_ok-grid.grid c.in_ok-labels.labels parts c.in_ok-head.ensures.head grid.map grid.whole grid.few c.in_ok-labels.ensures
    c.in_ok-parts.ensures.parts front c.in_ok-end.ensures.end c.in_ok-parts.ensures.ready _ c.in_ok-comps.ensures.comps c.in_ok-comps.ensures.rows

pub returns-clause-file : goal.returns-clause-file
returns-clause-file c =
    let parts = c.in_ok-parts.parts.items in
    let r = c.read_parts.new.reader in
    let grid = c.in_ok-grid.ensures in
    let front = c.in_ok-parts.ensures.rows.front ∙ ap (λ (l : List ℕ). l ++ comps_bytes (map (λ (q : Parted). q.rows) parts)) grid.front in
    let same = c.in_ok-parts.ensures.rows.same ∙ grid.same ∙ c.in_ok-head.ensures.same ∙ c.of-reader.ensures.bytes in
    let file = load_file r c.in_ok-head.head c.in_ok-grid.grid c.in_ok-labels.labels parts c.in_ok-head.ensures.head grid.map grid.whole grid.few c.in_ok-labels.ensures
    c.in_ok-parts.ensures.parts front c.in_ok-end.ensures.end c.in_ok-parts.ensures.ready _ c.in_ok-comps.ensures.comps c.in_ok-comps.ensures.rows in
    sym same ∙ file ∙ ap (λ (v : Versioned). file_of v) (sym c.assemble_labelled.ensures)
