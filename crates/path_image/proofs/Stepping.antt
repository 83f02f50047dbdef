-- One step of a walk over the image of a version.
use Rattle.std.proofs.Common.{◌≡◌, ◌≢◌, ℕ, ◌<◌, List, [], ◌∷◌, length, refl, sym, ap, subst, ◌∙◌, arith}
use Rattle.std.specs.List.{Contains}
use Rattle.std.proofs.lemmas.List.Elements.{Contains-get_or}
use Rattle.moves.specs.declared.Cell.{Cell}
use Rattle.moves.specs.declared.Move.{Move}
use Rattle.moves.specs.Moves.{IsTarget}
use Rattle.moves.specs.Paths.{Leads}
use Rattle.moves.specs.FirstSetLists.{cell_of}
use Rattle.moves.proofs.MoveLaws.{same_target}
use Rattle.run_pack.specs.declared.Run.{Run}
use Rattle.row_store.specs.Comps.{IsPlaceOf, IsMoveOfRow}
use Rattle.versions.specs.Spelled.{IsKept, Spells}
use Rattle.versions.specs.Databases.{Versioned, comp_at}
use Rattle.versions.proofs.BestWalks.{kept_once, at_one_place}
use Rattle.versions.proofs.Walking.{found_at}
use Rattle.path_image.specs.declared.walking.Walk.{Walk}
use Rattle.path_image.specs.declared.walking.Step.{Step}
use Rattle.path_image.specs.declared.walking.Step.TheVariants.{Arrived, Go, Lost}
use Rattle.path_image.specs.Answers.{IsHomeOf}
use Rattle.path_image.specs.Walks.{IsAhead, StepsTo, Enters}
use Rattle.path_image.proofs.Homes.{whole_comp, contains_at}

-- what is ahead of a walk after a move
pub record IsPast (version : Versioned) (walk : Walk) (by : Move) (rest : List Move) : Type 0 where
  pub to : Cell
  pub target : IsTarget walk.at by to
  pub place : ℕ
  pub home : IsHomeOf version to walk.home.label place
  pub spelled : Spells (comp_at version.comps walk.home.label).cells (comp_at version.comps walk.home.label).rows to rest
      (cell_of (comp_at version.comps walk.home.label).cells walk.goal)
  pub leads : Leads version.map to rest (cell_of (comp_at version.comps walk.home.label).cells walk.goal)
  pub few : length rest < length (comp_at version.comps walk.home.label).cells

-- what is spelled begins at one of the cells
spells_from : (cells : List Cell) (rows : List (List Run)) (from : Cell) (moves : List Move) (goal : ℕ) → goal < length cells
    → Spells cells rows from moves (cell_of cells goal) → Contains cells from
spells_from cells rows from [] goal within same = subst (Contains cells) (sym same) (Contains-get_or cells goal (record { x = 0; y = 0 }) within)
spells_from cells rows from (move ∷ moves) goal within spelled = contains_at cells from spelled.1.source spelled.1.leaves

module _ (words : List ℕ) (version : Versioned) (walk : Walk) where
  -- nothing is ahead of a walk that is at its goal
  pub stays : (moves : List Move) → IsAhead words version walk moves → walk.home.place ≡ walk.goal → moves ≡ []
  stays [] p same = refl
  stays (move ∷ moves) p same = absurd (p.spelled.0 (sym p.here.there ∙ ap (cell_of (comp_at version.comps walk.home.label).cells) same))

  -- and else what is ahead begins with the move that is kept
  pub goes : (moves : List Move) (by : Move) → IsAhead words version walk moves → walk.home.place ≢ walk.goal
      → IsMoveOfRow (comp_at version.comps walk.home.label) walk.home.place walk.goal by
      → (rest : List Move) × (moves ≡ by ∷ rest) × IsPast version walk by rest
  goes [] by p apart row =
      let comp = comp_at version.comps walk.home.label in
      let whole = whole_comp version p.image.of walk.home.label p.within in
      absurd (apart (at_one_place comp.cells whole.once walk.at walk.home.place walk.goal p.here (record { within = p.goal; there = sym p.spelled })))
  goes (first ∷ rest) by p apart row =
      let comp = comp_at version.comps walk.home.label in
      let whole = whole_comp version p.image.of walk.home.label p.within in
      let kept : IsKept comp.cells comp.rows walk.at (cell_of comp.cells walk.goal) by =
      record { source = walk.home.place; column = walk.goal; leaves = p.here; arrives = record { within = p.goal; there = refl }; covers = row } in
      let same = kept_once comp.cells comp.rows whole.rows whole.once walk.at (cell_of comp.cells walk.goal) first by p.spelled.1 kept in
      let next = same_target walk.at first p.spelled.2 p.leads.0 p.spelled.3 p.leads.1.target in
      let spelled = subst (λ c. Spells comp.cells comp.rows c rest (cell_of comp.cells walk.goal)) next p.spelled.4 in
      let at = found_at comp.cells p.leads.0 (spells_from comp.cells comp.rows p.leads.0 rest walk.goal p.goal spelled) in (
        rest,
        ap (λ m. m ∷ rest) same,
        record {
          to = p.leads.0;
          target = subst (λ m. IsTarget walk.at m p.leads.0) same p.leads.1.target;
          place = at.0;
          home = record { passable = p.leads.1.enters.passable; within = p.within; there = at.1 };
          spelled = spelled;
          leads = p.leads.2;
          few = (let f = p.few in omega arith);
        },
      )

  -- a step to the cell that the move leads to is the step
  pub entered : (new : Walk) (by : Move) (to : Cell) (step : Step) (moves : List Move) → IsAhead words version walk moves
      → walk.home.place ≢ walk.goal → IsMoveOfRow (comp_at version.comps walk.home.label) walk.home.place walk.goal by
      → IsTarget walk.at by to → Enters words walk new by to step → StepsTo words version new moves step
  entered new by to Arrived moves p apart row target enters = absurd enters
  entered new by to Lost moves p apart row target enters =
      let past = goes moves by p apart row in
      let same = same_target walk.at by past.2.to to past.2.target target in
      enters version p.image past.2.place (subst (λ c. IsHomeOf version c walk.home.label past.2.place) same past.2.home)
  entered new by to (Go move) moves p apart row target enters =
      let past = goes moves by p apart row in
      let same = same_target walk.at by past.2.to to past.2.target target in
      let at = sym (enters.1 ∙ sym same) in
      let home = enters.4 version p.image in (
        past.0,
        past.1 ∙ ap (λ m. m ∷ past.0) (sym enters.0),
        record {
          image = p.image;
          within = home.within;
          here = subst (λ c. IsPlaceOf (comp_at version.comps new.home.label).cells c new.home.place) (sym enters.1) home.there;
          goal = rw (enters.3, enters.2) p.goal;
          spelled = rw (enters.3, enters.2, ← at) past.2.spelled;
          leads = rw (enters.3, enters.2, ← at) past.2.leads;
          few = rw (enters.3) past.2.few;
        },
      )
