-- What is told of a walk that begins at a cell without a bit.
use Rattle.std.proofs.Common.{◌≡◌, ℕ, List, ◌∷◌, sym, subst}
use Rattle.moves.specs.declared.Cell.{Cell}
use Rattle.moves.specs.declared.Move.{Move}
use Rattle.moves.specs.Moves.{IsLegal, IsTarget}
use Rattle.moves.specs.FirstSetLists.{cell_of}
use Rattle.moves.specs.Paths.{Leads}
use Rattle.moves.proofs.MoveLaws.{same_target}
use Rattle.versions.specs.Databases.{Versioned, comp_at}
use Rattle.versions.specs.Answers.{IsWalk}
use Rattle.path_image.specs.declared.reading.Home.{Home}
use Rattle.path_image.specs.declared.walking.Walk.{Walk}
use Rattle.path_image.specs.declared.walking.Step.{Step}
use Rattle.path_image.specs.declared.walking.Step.TheVariants.{Arrived, Go, Lost}
use Rattle.path_image.specs.Answers.{IsHomeIn, IsHomeOf}
use Rattle.path_image.specs.Images.{IsImageOf}
use Rattle.path_image.specs.Reading.{width_in}
use Rattle.path_image.specs.Strides.{BeginsBetween}
use Rattle.path_image.specs.Walks.{Advances, BeginsWalk}
use Rattle.path_image.proofs.Homes.{apart}
use Rattle.live_maps.specs.declared.answers.LiveNext.{LiveNext}
use Rattle.live_maps.specs.declared.live_image.Told.TheVariants.{Whole, Front, Lost as LostTold}
use Rattle.live_maps.specs.Live.{live_map}
use Rattle.live_maps.specs.Told.{IsApart, IsClear, IsLiveNextOf, Living, WritesFree, WritesFront}
use Rattle.live_maps.specs.Telling.{IsToldAhead}
use Rattle.live_maps.proofs.Along.{HasNoBit, clear_is_legal, not_clear}
use Rattle.live_maps.proofs.Blocking.{bits_make_live}
use Rattle.live_maps.proofs.Free.{free_best, joins_are_baked, paths_are_free}

-- a step over words that are those of the live map
pub steps_over : (words other : List ℕ) (old new : Walk) (step this : Step) → words ≡ other → step ≡ this → Advances words old new step
    → Advances other old new this
steps_over words other old new step this same is h = subst (λ w. Advances w old new this) same (subst (Advances words old new) is h)

-- what is clear between two cells is so between cells that are the same
pub clear_between : (bits : List ℕ) (width : ℕ) (a b : Cell) (by : Move) (c d : Cell) → a ≡ b → c ≡ d → IsClear bits width a by c → IsClear bits width b by d
clear_between bits width a b by c d p q h = subst (λ x. IsClear bits width x by d) p (subst (IsClear bits width a by) q h)

module _ (live : Living) (version : Versioned) (image : IsImageOf live.words version) (start goal : Cell) where
  -- the walk between two cells of one component
  pub begins_at : (words : List ℕ) (from to : Home) (walk : Walk) → words ≡ live.words → BeginsBetween words start from to.place walk
      → IsHomeIn live.words start from → IsHomeIn live.words goal to → from.label ≡ to.label → BeginsWalk live.words version start goal walk
  begins_at words from to walk same begins its_from its_to label =
      subst (λ w. BeginsBetween w start from to.place walk) same begins version goal image (its_from version image)
      (subst (λ l. IsHomeOf version goal l to.place) (sym label) (its_to version image))

  -- two cells in two components are apart, baked and live
  pub told_apart : (from to : Home) → IsHomeIn live.words start from → IsHomeIn live.words goal to → (from.label ≡ to.label → ⊥)
      → IsApart version live.bits start goal
  told_apart from to its_from its_to other =
      let baked = apart version image.of start goal from.label to.label from.place to.place (its_from version image) (its_to version image) other in
      record {
        baked = baked;
        live = λ reach. baked (joins_are_baked version.map (live_map version.map live.bits) (bits_make_live version.map live.bits) start goal reach);
      }

  module _ (walk : Walk) (begun : BeginsWalk live.words version start goal walk) where
    pub next_arrived : (next : Walk) → Advances live.words walk next Arrived → start ≡ goal
    next_arrived next step =
        let none = step version begun.moves begun.ahead in
        let is = subst (IsWalk version.map version.comps start goal) none begun.is in
        is.spelled.spelled

    pub next_not_lost : (next : Walk) → Advances live.words walk next Lost → ⊥
    next_not_lost next step = step version begun.moves begun.ahead

    -- the move is the first of the walk, and legal on the baked map
    first_of_walk : (next : Walk) (by : Move) → Advances live.words walk next (Go by) → IsTarget walk.at by next.at → walk.at ≡ start
        → (rest : List Move) × IsWalk version.map version.comps start goal (by ∷ rest) × IsLegal version.map start by next.at
    first_of_walk next by step target at_start =
        let taken = step version begun.moves begun.ahead in
        let is = subst (IsWalk version.map version.comps start goal) taken.1 begun.is in
        let path = is.best.leads in
        let aim = subst (λ c. IsTarget c by next.at) at_start target in
        (taken.0, is, subst (IsLegal version.map start by) (same_target start by path.0 next.at path.1.target aim) path.1)

    pub next_free : (next : Walk) (by : Move) → Advances live.words walk next (Go by) → IsTarget walk.at by next.at → walk.at ≡ start
        → HasNoBit live start → IsClear live.bits (width_in live.words) start by next.at → IsLiveNextOf version live.bits start goal (LiveNext.Go by)
    next_free next by step target at_start here clear =
        let first = first_of_walk next by step target at_start in
        (first.0, first.1, (next.at, clear_is_legal live version image start by next.at first.2 here clear))

    pub next_stale : (next : Walk) (by : Move) → Advances live.words walk next (Go by) → IsTarget walk.at by next.at → walk.at ≡ start
        → (IsClear live.bits (width_in live.words) start by next.at → ⊥) → IsLiveNextOf version live.bits start goal (LiveNext.Stale by)
    next_stale next by step target at_start shut =
        let first = first_of_walk next by step target at_start in
        (first.0, first.1, not_clear live version image start by next.at first.2.target shut)

    pub writes_whole : (old new : List ℕ) (count : ℕ) → IsToldAhead live walk old new (Whole count) → HasNoBit live walk.at → walk.at ≡ start
        → WritesFree version live.bits start goal old new count
    writes_whole old new count told clear at_start =
        let tells = told version begun.moves begun.ahead clear in
        let end = begun.is.best.leads in
        let path : Leads (live_map version.map live.bits) start begun.moves goal = ends_alike begun.moves start at_start tells.leads end in
        record {
          moves = begun.moves;
          walk = begun.is;
          best = free_best version.map (live_map version.map live.bits) (bits_make_live version.map live.bits) start begun.moves goal begun.is.best path;
          long = tells.long;
          room = tells.room;
        }
      where
        -- the moves of a path lead where they lead on the baked map
        ends_alike : (moves : List Move) (from : Cell) → walk.at ≡ from → Leads (live_map version.map live.bits) walk.at moves (cell_of (comp_at version.comps walk.home.label).cells walk.goal)
            → Leads version.map from moves goal → Leads (live_map version.map live.bits) from moves goal
        ends_alike moves from at path baked =
            (paths_are_free version.map (live_map version.map live.bits) (bits_make_live version.map live.bits) from moves goal).1 (
              baked,
              ((paths_are_free version.map (live_map version.map live.bits) (bits_make_live version.map live.bits) from moves (cell_of (comp_at version.comps walk.home.label).cells walk.goal)).0
                  (subst (λ c. Leads (live_map version.map live.bits) c moves (cell_of (comp_at version.comps walk.home.label).cells walk.goal)) at path)).1,
            )

    pub writes_front : (old new : List ℕ) (count : ℕ) → IsToldAhead live walk old new (Front count) → HasNoBit live walk.at → walk.at ≡ start
        → WritesFront version live.bits start goal old new count
    writes_front old new count told clear at_start =
        let tells = told version begun.moves begun.ahead clear in
        record {
          front = tells.front;
          next = tells.next;
          rest = tells.rest;
          walk = subst (IsWalk version.map version.comps start goal) tells.whole begun.is;
          at = tells.at;
          leads = subst (λ c. Leads (live_map version.map live.bits) c tells.front tells.at) at_start tells.leads;
          closed = tells.closed;
          long = tells.long;
          room = tells.room;
        }

    pub told_not_lost : (old new : List ℕ) → IsToldAhead live walk old new LostTold → HasNoBit live walk.at → ⊥
    told_not_lost old new told clear = told version begun.moves begun.ahead clear
