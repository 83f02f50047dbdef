-- A walk that is followed to a place that is known, and the places of its steps that become known then.
use Rattle.std.proofs.Common.{◌≡◌, ◌≢◌, ℕ, suc, ◌+◌, ◌/◌, ◌%◌, ◌<◌, ◌≤◌, Bool, true, false, List, ◌∷◌, length, Some, None, refl, sym, ap, subst, ◌∙◌, arith}
use Rattle.moves.specs.declared.Cell.{Cell}
use Rattle.moves.specs.declared.Move.{Move}
use Rattle.moves.specs.Moves.{IsLegal, IsTarget, number_of}
use Rattle.moves.proofs.MoveLaws.{number_below, same_cell, same_target}
use Rattle.versions.specs.Databases.{Versioned, comp_at}
use Rattle.versions.specs.Answers.{IsWalk}
use Rattle.path_image.specs.declared.reading.Home.{Home}
use Rattle.path_image.specs.declared.walking.Walk.{Walk}
use Rattle.path_image.specs.declared.walking.Step.TheVariants.{Arrived, Go, Lost}
use Rattle.path_image.specs.Answers.{IsHomeOf}
use Rattle.path_image.specs.Reading.{StandsIn, cell_of_word, size_at, start_in, width_in}
use Rattle.path_image.specs.Images.{IsImageOf, cell_word}
use Rattle.path_image.specs.Walks.{Advances, BeginsWalk, IsAhead}
use Rattle.path_image.proofs.Showing.{size_shown}
use Rattle.live_maps.specs.Told.{IsClear, Living}
use Rattle.live_maps.proofs.Along.{clear_is_legal}
use Rattle.live_search.specs.declared.noting.Followed.{Followed}
use Rattle.live_search.specs.declared.seeking.Seek.{Seek}
use Rattle.live_search.specs.Sound.{IsAbout, IsSound, IsSought, IsTold, at, now}
use Rattle.live_search.specs.State.{IsSameList, IsSameState, Knows, Lists, PutsLink, link_cell_in, link_in, mark_in, told_in}
use Rattle.live_search.specs.Steps.{Follows, GoesOn, HasNoBit, IsChain, IsFollowedTo, IsLink, KnowsAll, Notes, StepsBack, link_of, told_before}
use Rattle.live_search.proofs.Bounding.{one_cell, one_place}
use Rattle.live_search.proofs.Growing.{grows_itself, grows_more, grows_same}
use Rattle.live_search.proofs.Keeping.{known_grows, known_now, sound_know, sound_kept}
use Rattle.live_search.proofs.Linking.{ahead_home, ahead_is_walk, ahead_none, chain_same, told_step}

-- ---- a walk is followed

-- so many moves are ahead, and the steps that were put lead to where the walk stands
pub record IsOnTheWay (version : Versioned) (live : Living) (seek : Seek) (goal first : Cell) (state : List ℕ) (moves : List Move) (walk : Walk) (turns : ℕ)
    : Type 0 where
  pub rest : List Move
  pub ahead : IsAhead live.words version walk rest
  pub long : turns + length rest ≡ length moves
  pub chain : IsChain version live seek goal state first turns walk.at
  pub place : walk.goal ≡ seek.goal.place

-- what holds while a walk is followed
pub record IsFollowing (live : Living) (seek : Seek) (old state : List ℕ) (start_walk walk : Walk) (turns : ℕ) : Type 0 where
  pub same : IsSameState seek.size old state
  pub listed : IsSameList seek.size old state
  pub label : walk.home.label ≡ seek.goal.label
  pub over : (version : Versioned) (start goal : Cell) → IsAbout version live seek start goal → mark_in old seek.goal.place ≢ 0
      → (moves : List Move) → IsAhead live.words version start_walk moves → start_walk.goal ≡ seek.goal.place
      → IsOnTheWay version live seek goal start_walk.at state moves walk turns

pub following_none : (live : Living) (seek : Seek) (state : List ℕ) (walk : Walk) → walk.home.label ≡ seek.goal.label
    → IsFollowing live seek state state walk walk 0
following_none live seek state walk label = record {
  same = λ q w. record { mark = refl; cost = refl; told = refl; from = refl; cell = refl };
  listed = record { count = refl; each = λ i w. refl };
  label = label;
  over = λ version start goal about known moves ahead place. record { rest = moves; ahead = ahead; long = omega arith; chain = refl; place = place };
}

same_more : (n : ℕ) (a b c : List ℕ) → IsSameState n a b → IsSameState n b c → IsSameState n a c
same_more n a b c p q place within =
    let x = p place within in
    let y = q place within in
    record { mark = y.mark ∙ x.mark; cost = y.cost ∙ x.cost; told = y.told ∙ x.told; from = y.from ∙ x.from; cell = y.cell ∙ x.cell }

list_more : (n : ℕ) (a b c : List ℕ) → IsSameList n a b → IsSameList n b c → IsSameList n a c
list_more n a b c p q = record { count = q.count ∙ p.count; each = λ i w. q.each i w ∙ p.each i w }

-- a cell's word gives it back
pub word_gives : (word : ℕ) (cell : Cell) → word ≡ cell_word cell → word % 65536 ≡ cell.x → word / 65536 ≡ cell.y → cell_of_word (cell_word cell) ≡ cell
word_gives word cell is column row =
    subst (λ w. cell_of_word w ≡ cell) is (same_cell (cell_of_word word) cell (let c = column in omega arith) (let r = row in omega arith))

-- the parts of a step's word
link_parts : (place : ℕ) (by : Move) (free : Bool) → (number_of by ≡ link_of place by free / 2 % 8) × (link_of place by free / 16 ≡ place) × (link_of place by free % 2 ≡ 1 → free ≡ true)
link_parts place by true = let n = number_below by in (omega arith, omega arith, λ e. refl)
link_parts place by false = let n = number_below by in (omega arith, omega arith, λ e. absurd (omega arith))

module _ (live : Living) (seek : Seek) (old state new : List ℕ) (start_walk walk next : Walk) (turns : ℕ)
    (p : IsFollowing live seek old state start_walk walk turns) (few : turns < seek.size) where
  -- a step is put
  pub following_more : (by : Move) (free : Bool) → Advances live.words walk next (Go by) → IsTarget walk.at by next.at → next.goal ≡ walk.goal
      → next.home.label ≡ walk.home.label → walk.home.place < seek.size → cell_of_word (cell_word walk.at) ≡ walk.at
      → (free ≡ true → IsClear live.bits (width_in live.words) walk.at by next.at)
      → PutsLink seek.size state new turns (link_of walk.home.place by free) (cell_word walk.at)
      → IsFollowing live seek old new start_walk next (turns + 1)
  following_more by free step target goal label within back clear puts = record {
    same = same_more seek.size old state new p.same puts.same;
    listed = list_more seek.size old state new p.listed puts.listed;
    label = label ∙ p.label;
    over = λ version start goal_cell about known moves ahead place.
        (let way = p.over version start goal_cell about known moves ahead place in
        let taken = step version way.rest way.ahead in
        let whole = subst (IsAhead live.words version walk) taken.1 way.ahead in
        let parts = link_parts walk.home.place by free in
        let legal = subst (IsLegal version.map walk.at by) (same_target walk.at by whole.leads.0 next.at whole.leads.1.target target) whole.leads.1 in
        let link : IsLink version live seek goal_cell (link_of walk.home.place by free) (cell_word walk.at) next.at =
        record {
          move = by;
          rest = taken.0;
          number = parts.0;
          within = (let e = parts.1 in omega arith);
          home =
              subst (λ c. IsHomeOf version c seek.goal.label (link_of walk.home.place by free / 16)) (sym back)
              (subst (IsHomeOf version walk.at seek.goal.label) (sym parts.1) (ahead_home version live seek start goal_cell about walk (by ∷ taken.0) whole p.label));
          walk =
              subst (λ c. IsWalk version.map version.comps c goal_cell (by ∷ taken.0)) (sym back)
              (ahead_is_walk version live seek start goal_cell about walk (by ∷ taken.0) whole p.label way.place);
          target = subst (λ c. IsTarget c by next.at) (sym back) target;
          free = subst (λ c. link_of walk.home.place by free % 2 ≡ 1 → HasNoBit live c → IsLegal (now version live) c by next.at) (sym back)
              (λ odd here. clear_is_legal live version about.image walk.at by next.at legal here (clear (parts.2 odd)));
        } in
        let older = chain_same version live seek start goal_cell about state new start_walk.at turns walk.at
        (λ i less. (let o = puts.others i (omega arith) (λ e. omega arith) in (o.link, o.cell))) way.chain in
        let long = ap length taken.1 in
        let whole_chain : IsChain version live seek goal_cell new start_walk.at (suc turns) next.at = (
          subst (λ l. IsLink version live seek goal_cell l (link_cell_in new seek.size turns) next.at) (sym puts.link_now)
              (subst (λ w. IsLink version live seek goal_cell (link_of walk.home.place by free) w next.at) (sym puts.cell_now) link),
          subst (IsChain version live seek goal_cell new start_walk.at turns) (sym back ∙ ap cell_of_word (sym puts.cell_now)) older,
        ) in
        record {
          rest = taken.0;
          ahead = taken.2;
          long = (let l = way.long in omega arith);
          chain = (let e : suc turns ≡ turns + 1 = omega arith in subst (λ t. IsChain version live seek goal_cell new start_walk.at t next.at) e whole_chain);
          place = goal ∙ way.place;
        });
  }

module _ (live : Living) (seek : Seek) (old state : List ℕ) (start_walk walk : Walk) (turns : ℕ) (p : IsFollowing live seek old state start_walk walk turns) where
  -- at a place that is known it ends
  pub following_found : mark_in state walk.home.place ≢ 0
      → Follows live seek old state start_walk (Some (record { steps = turns; known = walk.home.place }))
  following_found marked = record {
    same = p.same;
    listed = p.listed;
    over = λ version start goal about known moves ahead place.
        (let way = p.over version start goal about known moves ahead place in
        record {
          to = walk.at;
          home = ahead_home version live seek start goal about walk way.rest way.ahead p.label;
          marked = marked;
          chain = way.chain;
        });
  }

  -- it never gets lost
  pub following_not_lost : (next : Walk) → Advances live.words walk next Lost → Follows live seek old state start_walk None
  following_not_lost next step = record {
    same = p.same;
    listed = p.listed;
    over = λ version start goal about known moves ahead place.
        (let way = p.over version start goal about known moves ahead place in step version way.rest way.ahead);
  }

  -- nor arrives where nothing is known
  pub following_not_there : (next : Walk) → Advances live.words walk next Arrived → mark_in state walk.home.place ≡ 0 → seek.goal.place < seek.size
      → Follows live seek old state start_walk None
  following_not_there next step none inside = record {
    same = p.same;
    listed = p.listed;
    over = λ version start goal about known moves ahead place.
        (let way = p.over version start goal about known moves ahead place in
        let arrived = step version way.rest way.ahead in
        let there = ahead_none version live seek start goal about walk (subst (IsAhead live.words version walk) arrived way.ahead) p.label way.place in
        let home = subst (λ c. IsHomeOf version c seek.goal.label walk.home.place) there (ahead_home version live seek start goal about walk way.rest way.ahead p.label) in
        let same = one_place version live seek start goal about goal walk.home.place seek.goal.place home about.to in
        known (sym (p.same seek.goal.place inside).mark ∙ ap (mark_in state) (sym same) ∙ none));
  }

  -- nor takes as many turns as there are cells
  pub following_not_long : seek.size ≤ turns
      → ((version : Versioned) (start goal : Cell) → IsAbout version live seek start goal → (moves : List Move) → IsAhead live.words version start_walk moves
      → length moves < seek.size) → Follows live seek old state start_walk None
  following_not_long all few = record {
    same = p.same;
    listed = p.listed;
    over = λ version start goal about known moves ahead place.
        (let way = p.over version start goal about known moves ahead place in
        let long = way.long in
        let short = few version start goal about moves ahead in
        absurd (omega arith));
  }

-- fewer moves are ahead than the component has cells
pub ahead_few : (live : Living) (seek : Seek) (walk : Walk) → walk.home.label ≡ seek.goal.label → seek.size ≡ size_at live.words (start_in live.words seek.goal.label)
    → (version : Versioned) (start goal : Cell) → IsAbout version live seek start goal → (moves : List Move) → IsAhead live.words version walk moves
    → length moves < seek.size
ahead_few live seek walk label size version start goal about moves ahead =
    let few = ahead.few in
    let same : length (comp_at version.comps walk.home.label).cells ≡ length (comp_at version.comps seek.goal.label).cells =
    ap (λ l. length (comp_at version.comps l).cells) label in
    let shown = size_shown live.words version about.image seek.goal.label about.to.within in
    omega arith

-- ---- steps become known, from the last one back

module _ (seek : Seek) (old mid new : List ℕ) (step next link told : ℕ) (is : link ≡ link_in old seek.size step) (inside : seek.goal.place < seek.size)
    (next_in : next < seek.size) (is_told : told ≡ told_before (told_in old seek.size next) link) (place_in : link / 16 < seek.size) where
  -- where the place was not known
  pub steps_back : mark_in old (link / 16) ≡ 0 → Lists seek.size old mid (link / 16)
      → Knows seek.size mid new (link / 16) told (link_cell_in old seek.size step) → StepsBack seek old new step next (link / 16)
  steps_back none lists knows = record {
    within = place_in;
    links = λ i w. record { link = (knows.links i w).link ∙ (lists.links i w).link; cell = (knows.links i w).cell ∙ (lists.links i w).cell };
    over = λ version live start goal about sound known its.
        (let word = link_cell_in old seek.size step in
        let its_link = subst (λ l. IsLink version live seek goal l word (at old seek next)) (sym is) its in
        let telling = told_step version live seek start goal about link word (told_in old seek.size next) (at old seek next) its_link (sound.told next next_in known) in
        let now_told = subst (IsTold version live goal (cell_of_word word)) (sym is_told) telling in
        let after = sound_know version live seek start goal old mid new sound inside (link / 16) told word place_in none lists knows its_link.home now_told in (
          record { sound = after; grows = known_grows version live seek start goal old mid new sound inside (link / 16) told word place_in none lists knows },
          known_now version live seek start goal old mid new sound inside (link / 16) told word place_in none lists knows,
          ap cell_of_word knows.cell_now,
        ));
  }

  -- and where it was
  pub steps_known : (mark_in old (link / 16) ≡ 0 → ⊥) → StepsBack seek old old step next (link / 16)
  steps_known some = record {
    within = place_in;
    links = λ i w. record { link = refl; cell = refl };
    over = λ version live start goal about sound known its.
        (let word = link_cell_in old seek.size step in
        let its_link = subst (λ l. IsLink version live seek goal l word (at old seek next)) (sym is) its in (
          record { sound = sound; grows = grows_itself seek.size old },
          some,
          one_cell version live seek start goal about (at old seek (link / 16)) (cell_of_word word) (link / 16) (sound.cells (link / 16) place_in some) its_link.home,
        ));
  }

-- a word of a step that leads out is none of a version's
pub steps_none : (seek : Seek) (old : List ℕ) (step next link : ℕ) → link ≡ link_in old seek.size step → seek.size ≤ link / 16 → next < seek.size
    → StepsBack seek old old step next next
steps_none seek old step next link is out inside = record {
  within = inside;
  links = λ i w. record { link = refl; cell = refl };
  over = λ version live start goal about sound known its. absurd (let w = its.within in let e : link / 16 ≡ link_in old seek.size step / 16 = ap (λ l. l / 16) is in omega arith);
}

-- so many steps are left, from a place that is known
pub record IsBack (seek : Seek) (old state : List ℕ) (found : Followed) (left next : ℕ) : Type 0 where
  pub within : next < seek.size
  pub few : left < seek.size
  pub over : (version : Versioned) (live : Living) (start goal first : Cell) → IsAbout version live seek start goal → IsSound version live seek start goal old
      → IsFollowedTo version live seek goal first old found.steps found.known
      → GoesOn version live seek start goal old state × (mark_in state next ≢ 0) × IsChain version live seek goal state first left (at state seek next)

pub back_none : (seek : Seek) (old : List ℕ) (found : Followed) → found.steps < seek.size → found.known < seek.size → IsBack seek old old found found.steps found.known
back_none seek old found few within = record {
  within = within;
  few = few;
  over = λ version live start goal first about sound to. (
    record { sound = sound; grows = grows_itself seek.size old },
    to.marked,
    subst (IsChain version live seek goal old first found.steps)
        (one_cell version live seek start goal about to.to (at old seek found.known) found.known to.home (sound.cells found.known within to.marked)) to.chain,
  );
}

pub back_more : (seek : Seek) (old state new : List ℕ) (found : Followed) (left less next place : ℕ) → IsBack seek old state found left next → left ≡ suc less
    → StepsBack seek state new less next place → IsBack seek old new found less place
back_more seek old state new found left less next place p one steps = record {
  within = steps.within;
  few = (let f = p.few in omega arith);
  over = λ version live start goal first about sound to.
      (let so = p.over version live start goal first about sound to in
      let chain = subst (λ n. IsChain version live seek goal state first n (at state seek next)) one so.2 in
      let turn = steps.over version live start goal about so.0.sound so.1 chain.0 in (
        record { sound = turn.0.sound; grows = grows_more seek.size old state new so.0.grows turn.0.grows },
        turn.1,
        subst (IsChain version live seek goal new first less) (sym turn.2)
            (chain_same version live seek start goal about state new first less (cell_of_word (link_cell_in state seek.size less))
            (λ i fewer. (let l = steps.links i (let f = p.few in omega arith) in (l.link, l.cell))) chain.1),
      ));
}

pub back_all : (seek : Seek) (old state : List ℕ) (found : Followed) (left next : ℕ) → IsBack seek old state found left next → left ≡ 0 → KnowsAll seek old state found
back_all seek old state found left next p none version live start goal first about sound to =
    let so = p.over version live start goal first about sound to in
    let chain = subst (λ n. IsChain version live seek goal state first n (at state seek next)) none so.2 in (
      so.0,
      record {
        place = next;
        within = p.within;
        known = so.1;
        there = sym chain;
        cheap = so.0.sound.costs next p.within so.1;
      },
    )

-- ---- a place is made known

pub notes_all : (live : Living) (seek : Seek) (old mid new : List ℕ) (cell : Cell) (place : ℕ) (walk : Walk) (found : Followed)
    → walk.at ≡ cell → walk.goal ≡ seek.goal.place → ((version : Versioned) (goal : Cell) → IsImageOf live.words version
    → IsHomeOf version cell seek.goal.label place → IsHomeOf version goal seek.goal.label seek.goal.place → BeginsWalk live.words version cell goal walk)
    → seek.goal.place < seek.size → Follows live seek old mid walk (Some found) → KnowsAll seek mid new found → Notes live seek old new cell place true
notes_all live seek old mid new cell place walk found at_cell at_goal begins inside follows knows = record {
  over = λ version start goal about sound home.
      (let begun = begins version goal about.image home about.to in
      let middle = sound_kept version live seek start goal old mid sound inside follows.same follows.listed in
      let way = follows.over version start goal about sound.goal_known begun.moves begun.ahead at_goal in
      let all = knows version live start goal walk.at about middle way in
      let cell_home = subst (λ c. IsHomeOf version c seek.goal.label all.1.place) (all.1.there ∙ at_cell) (all.0.sound.cells all.1.place all.1.within all.1.known) in
      let same = one_place version live seek start goal about cell all.1.place place cell_home home in (
        refl,
        record { sound = all.0.sound; grows = grows_more seek.size old mid new (grows_same seek.size old mid follows.same) all.0.grows },
        subst (λ q. mark_in new q ≢ 0) same all.1.known,
      ));
}

pub notes_none : (live : Living) (seek : Seek) (old new : List ℕ) (cell : Cell) (place : ℕ) (walk : Walk) → walk.goal ≡ seek.goal.place
    → ((version : Versioned) (goal : Cell) → IsImageOf live.words version
    → IsHomeOf version cell seek.goal.label place → IsHomeOf version goal seek.goal.label seek.goal.place → BeginsWalk live.words version cell goal walk)
    → Follows live seek old new walk None → Notes live seek old new cell place false
notes_none live seek old new cell place walk at_goal begins follows = record {
  over = λ version start goal about sound home.
      (let begun = begins version goal about.image home about.to in
      absurd (follows.over version start goal about sound.goal_known begun.moves begun.ahead at_goal));
}

-- where a walk stands among the cells that are sought
pub home_within : (live : Living) (seek : Seek) (words : List ℕ) (walk : Walk) (home : Home) → IsSought live seek → words ≡ live.words → home ≡ walk.home
    → walk.home.label ≡ seek.goal.label → StandsIn words home.label home.place → walk.home.place < seek.size
home_within live seek words walk home sought same is label stands =
    let here = subst (λ w. StandsIn w walk.home.label walk.home.place) same (subst (λ h. StandsIn words h.label h.place) is stands) in
    let there = subst (λ l. walk.home.place < size_at live.words (start_in live.words l)) label here.place_in in
    let size = sought.size in
    omega arith

pub goal_within : (live : Living) (seek : Seek) → IsSought live seek → seek.goal.place < seek.size
goal_within live seek sought = (let g = sought.goal.place_in in let s = sought.size in omega arith)

-- a place that is known need not be made known
pub notes_known : (live : Living) (seek : Seek) (state : List ℕ) (cell : Cell) (place : ℕ) → mark_in state place ≢ 0 → Notes live seek state state cell place true
notes_known live seek state cell place known = record {
  over = λ version start goal about sound home. (refl, record { sound = sound; grows = grows_itself seek.size state }, known);
}
