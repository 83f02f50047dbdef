-- A search that begins, goes on and ends.
use Rattle.std.proofs.Common.{◌≡◌, ◌≢◌, ℕ, ◌+◌, ◌*◌, ◌/◌, ◌%◌, ◌<◌, ◌≤◌, Bool, true, false, List, [], ◌++◌, length, map, Option, Some, None, Result, Ok, Err, IfOk, IfErr, take, refl, sym, ap, subst, ◌∙◌, inl, inr, arith}
use Rattle.std.proofs.lemmas.Bool.{cases_eq, false≢true}
use Rattle.std.proofs.Math.Seq.{take-append_seam}
use Rattle.std.proofs.lemmas.List.{length-append}
use Rattle.root_cost.specs.Keys.{key_of}
use Rattle.moves.specs.declared.Cell.{Cell}
use Rattle.moves.specs.declared.Move.{Move}
use Rattle.moves.specs.declared.TheConstants.{MAX_PASSABLE}
use Rattle.moves.specs.Moves.{number_of}
use Rattle.moves.specs.Paths.{Leads, Reaches, cost_of}
use Rattle.moves.proofs.LawsOfPaths.{joined, leads_to}
use Rattle.versions.specs.Databases.{Versioned, comp_at}
use Rattle.path_image.specs.declared.reading.Home.{Home}
use Rattle.path_image.specs.Answers.{IsHomeIn, IsHomeOf, overwritten}
use Rattle.path_image.specs.Images.{IsImageOf, cell_word}
use Rattle.path_image.specs.Reading.{StandsIn, cell_of_word, size_at, start_in}
use Rattle.path_image.specs.Strides.{Walking}
use Rattle.path_image.specs.Walks.{BeginsWalk, IsAhead}
use Rattle.path_image.proofs.Homes.{contains_at, one_home}
use Rattle.path_image.proofs.Showing.{size_shown}
use Rattle.live_maps.specs.Told.{AreLiveEndsIn, Living}
use Rattle.live_maps.proofs.Along.{clear_passable, passable_clear}
use Rattle.live_maps.proofs.Onward.{told_apart}
use Rattle.live_search.specs.declared.TheConstants.{NEVER}
use Rattle.live_search.specs.declared.searching.TheConstants.{NO_LIMIT}
use Rattle.live_search.specs.declared.seeking.Seek.{Seek}
use Rattle.live_search.specs.declared.searching.LiveSearch.{LiveSearch}
use Rattle.live_search.specs.declared.searching.LiveSearch.TheVariants.{Found, Unreachable, More}
use Rattle.live_search.specs.declared.searching.SearchFault.{SearchFault}
use Rattle.live_search.specs.declared.searching.SearchFault.TheVariants.{Refused, TooSmall, FewWords, Broken}
use Rattle.live_search.specs.Answers.{Begins, HasFewWords, IsAnswered, IsSearchFaultIn, IsSearchedIn, IsWaiting, WritesBest}
use Rattle.live_search.specs.Ends.{Finishes, FinishesWith, IsLast, IsOpenBelow, KeepsOn, LeadsBy, NoneIsListedOpen, NoneIsOpen, PutsRest}
use Rattle.live_search.specs.Sound.{IsAbout, IsBegun, IsSound, IsSought, IsTold, at, now}
use Rattle.live_search.specs.State.{Grows, HasState, Knows, Lists, Lowers, cost_in, known_in, listed_in, mark_in, told_in}
use Rattle.live_search.specs.Steps.{Expands, Notes}
use Rattle.live_search.proofs.Bounding.{best_by_key, key_append, none_cheaper, none_reaches, one_place}
use Rattle.live_search.proofs.Chains.{chain_path, leads_long}
use Rattle.live_search.proofs.Keeping.{IsSoundAt, sound_by, sound_lower}
use Rattle.live_search.proofs.Linking.{walk_of_spelled}

-- ---- what is open

-- none of all is, where none of those that are listed is
pub none_of_all : (seek : Seek) (state : List ℕ) (key known : ℕ) → known ≡ known_in state seek.size → known < seek.size → NoneIsListedOpen seek state key known
    → NoneIsOpen seek state key
none_of_all seek state key known is few none listed place within is_open = elim (listed place within is_open.known) [
  | inl full ↦ absurd (omega arith)
  | inr there ↦
      none there.0 (let l = there.1 in omega arith) (let e = there.2 in omega arith)
      (subst (IsOpenBelow seek state key) (sym there.2) is_open)
]

-- ---- a turn

begun_kept : (seek : Seek) (old new : List ℕ) → seek.first < seek.size → Grows seek.size old new → IsBegun seek old → IsBegun seek new
begun_kept seek old new within grows begun =
    let g = grows seek.first within begun.known in
    record { known = g.known; nothing = (let c = g.cost in let n = begun.nothing in omega arith) }

pub keeps_on_more : (live : Living) (seek : Seek) (a b c : List ℕ) → KeepsOn live seek a b → KeepsOn live seek b c → KeepsOn live seek a c
keeps_on_more live seek a b c first next version start goal about sound begun =
    let so = first version start goal about sound begun in
    next version start goal about so.0 so.1

pub expand_keeps : (live : Living) (seek : Seek) (old new : List ℕ) (place : ℕ) (done : Bool) → seek.first < seek.size → mark_in old place ≢ 0
    → cost_in old seek.size place < NEVER → Expands live seek old new place done → KeepsOn live seek old new
expand_keeps live seek old new place done within known few expands version start goal about sound begun =
    let e = expands.over version start goal about sound known few in
    (e.1.sound, begun_kept seek old new within e.1.grows begun)

-- ---- the beginning

module _ (version : Versioned) (live : Living) (seek : Seek) (start goal : Cell) (about : IsAbout version live seek start goal) where
  goal_told : IsTold version live goal goal 1
  goal_told =
      let comp = comp_at version.comps seek.goal.label in
      let has = contains_at comp.cells goal seek.goal.place about.to.there in
      record {
        moves = [];
        walk = walk_of_spelled version live seek start goal about goal []
            (record { label = seek.goal.label; within = about.to.within; leaves = has; arrives = has; spelled = refl }) (about.to.passable, refl);
        key = omega arith;
        free = λ odd clear. (passable_clear live version about.image goal about.to.passable clear, refl);
      }

  -- nothing is known but the goal
  pub begins_sound : (a b c : List ℕ) → cell_of_word (cell_word goal) ≡ goal → seek.goal.place < seek.size → ((place : ℕ) → place < seek.size → mark_in a place ≡ 0)
      → known_in a seek.size ≡ 0 → Lists seek.size a b seek.goal.place → Knows seek.size b c seek.goal.place 1 (cell_word goal)
      → IsSound version live seek start goal c
  begins_sound a b c back_is inside none no_list lists knows =
      sound_by version live seek start goal c
      (λ q w m. elim (cases_eq q seek.goal.place) [
        | inr apart ↦ absurd (m ((knows.others q w apart).mark ∙ (lists.same q w).mark ∙ none q w))
        | inl same ↦
            subst (IsSoundAt version live seek goal c) (sym same) (
            let back : at c seek seek.goal.place ≡ goal = ap cell_of_word knows.cell_now ∙ back_is in
            record {
              cells = subst (λ x. IsHomeOf version x seek.goal.label seek.goal.place) (sym back) about.to;
              told = subst (λ x. IsTold version live goal x (told_in c seek.size seek.goal.place)) (sym back) (subst (IsTold version live goal goal) (sym knows.told_now) goal_told);
              costs = (let k = knows.cost in omega arith);
              reached = λ few. absurd (let k = knows.cost in omega arith);
              closed = λ closed. absurd (let k = knows.mark in omega arith);
            })
      ])
      (λ e. (let k = knows.mark in omega arith))
      (λ q w m. elim (cases_eq q seek.goal.place) [
        | inr apart ↦ absurd (m ((knows.others q w apart).mark ∙ (lists.same q w).mark ∙ none q w))
        | inl same ↦
            let few : known_in a seek.size < seek.size = omega arith in
            let count = lists.count few in
            let kept = knows.listed.count in
            inr (0, omega arith, knows.listed.each 0 (omega arith) ∙ ap (listed_in b seek.size) (sym no_list) ∙ lists.last few ∙ sym same)
      ])

  -- and then the start, to which it costs nothing to come
  pub begins_all : (mid new : List ℕ) → IsSound version live seek start goal mid → mark_in mid seek.first ≢ 0 → seek.first < seek.size
      → seek.goal.place < seek.size → Lowers seek.size mid new seek.first 0 0 → IsSound version live seek start goal new × IsBegun seek new
  begins_all mid new sound known first inside lowers = (
    sound_lower version live seek start goal mid new sound inside seek.first 0 0 first known (omega arith) lowers (inl refl),
    record { known = λ e. (let m = lowers.mark in omega arith); nothing = lowers.cost_now },
  )

-- ---- the end

module _ (version : Versioned) (live : Living) (seek : Seek) (start goal : Cell) (about : IsAbout version live seek start goal) (state : List ℕ)
    (sound : IsSound version live seek start goal state) (begun : IsBegun seek state) (first : seek.first < seek.size) where
  -- where nothing is open there is no path
  pub no_path : NoneIsOpen seek state NO_LIMIT → Reaches (now version live) start goal → ⊥
  no_path none =
      none_reaches version live seek start goal about NO_LIMIT (omega arith)
      (none_cheaper version live seek start goal about state sound NO_LIMIT first (none sound.listed) begun)

  -- what is put by the last place is a best path
  pub last_is_best : (place : ℕ) (old new : List ℕ) (count : ℕ) → IsLast seek state place
      → FinishesWith version live seek start goal state place old new count → WritesBest version live.bits start goal old new count
  last_is_best place old new count last finishes = record {
    moves = finishes.moves;
    best = best_by_key version live seek start goal about finishes.moves (cost_in state seek.size place + told_in state seek.size place / 2) finishes.leads finishes.cheap
        (none_cheaper version live seek start goal about state sound (cost_in state seek.size place + told_in state seek.size place / 2) first (last.least sound.listed) begun);
    long = finishes.long;
    room = finishes.room;
  }

-- what was put of a way and of the walk behind it
pub finishes_with : (version : Versioned) (live : Living) (seek : Seek) (start goal : Cell) → (about : IsAbout version live seek start goal) → (state : List ℕ)
    → (sound : IsSound version live seek start goal state) → (place before : ℕ) (chain : List Move) (walk : Walking) (old mid new : List ℕ) (found : Option ℕ)
    → place < seek.size → mark_in state place ≢ 0 → cost_in state seek.size place < NEVER → told_in state seek.size place % 2 ≡ 1
    → LeadsBy seek state before place chain → mid ≡ overwritten old (map number_of chain) → walk.words ≡ live.words
    → BeginsWalk live.words version (at state seek place) goal walk.walk → ((moves : List Move) → IsAhead live.words version walk.walk moves → length moves < seek.size)
    → PutsRest walk seek.size before mid new found
    → (count : ℕ) × (found ≡ Some count) × FinishesWith version live seek start goal state place old new count
finishes_with version live seek start goal about state sound place before chain walk old mid new found within known few free leads is over begins short rest =
    let path = chain_path version live seek start goal about state sound before place chain leads within known few in
    let told = sound.told place within known in
    let same : begins.moves ≡ told.moves = told.walk.only begins.moves begins.is.spelled in
    let ahead = subst (λ w. IsAhead w version walk.walk begins.moves) (sym over) begins.ahead in
    let put = rest version old chain begins.moves ahead (short begins.moves begins.ahead) (sym (leads_long seek state before place chain leads)) is in
    let clear = clear_passable live version about.image (at state seek place) (leads_to (now version live) start (at state seek place) chain path.0) in
    let onward = subst (λ ms. Leads (now version live) (at state seek place) ms goal) (sym same) (told.free free clear) in
    let key = key_append chain begins.moves in
    let bound : told_in state seek.size place / 2 ≡ key_of (cost_of begins.moves) = told.key ∙ ap (λ ms. key_of (cost_of ms)) (sym same) in
    let cheap = path.1 in
    let long = leads_long seek state before place chain leads in
    let sum = length-append chain begins.moves in (
      before + length begins.moves,
      put.0,
      record {
        moves = chain ++ begins.moves;
        leads = joined (now version live) start (at state seek place) goal chain begins.moves path.0 onward;
        cheap = omega arith;
        long = omega arith;
        room = put.1;
      },
    )

-- ---- two cells are sought in one way

pub same_seek : (version : Versioned) (live : Living) (a b : Seek) (start goal : Cell) → IsAbout version live a start goal → IsAbout version live b start goal
    → IsSought live a → IsSought live b → a ≡ b
same_seek version live a b start goal p q s t =
    let label : a.goal.label ≡ b.goal.label = one_home version p.image.of goal a.goal.label b.goal.label a.goal.place b.goal.place p.to q.to in
    let to = subst (λ l. IsHomeOf version goal l a.goal.place) label p.to in
    let from = subst (λ l. IsHomeOf version start l a.first) label p.from in
    let place : a.goal.place ≡ b.goal.place = one_place version live b start goal q goal a.goal.place b.goal.place to q.to in
    let first : a.first ≡ b.first = one_place version live b start goal q start a.first b.first from q.from in
    let size : a.size ≡ b.size = s.size ∙ ap (λ l. size_at live.words (start_in live.words l)) label ∙ sym t.size in
    λ i. record { first = first i; goal = record { label = label i; place = place i }; size = size i }

-- ---- the beginning, as the code has it

pub begins_true : (live : Living) (seek : Seek) (start goal : Cell) (a b c mid new : List ℕ) → cell_of_word (cell_word goal) ≡ goal → seek.goal.place < seek.size
    → seek.first < seek.size → ((place : ℕ) → place < seek.size → mark_in a place ≡ 0) → known_in a seek.size ≡ 0 → Lists seek.size a b seek.goal.place
    → Knows seek.size b c seek.goal.place 1 (cell_word goal) → Notes live seek c mid start seek.first true → Lowers seek.size mid new seek.first 0 0
    → Begins live seek start goal new true
begins_true live seek start goal a b c mid new back inside first none no_list lists knows notes lowers = record {
  over = λ version about.
      (let sound = begins_sound version live seek start goal about a b c back inside none no_list lists knows in
      let noted = notes.over version start goal about sound about.from in
      let all = begins_all version live seek start goal about mid new noted.1.sound noted.2 first inside lowers in
      (refl, all.0, all.1));
}

pub begins_false : (live : Living) (seek : Seek) (start goal : Cell) (a b c mid : List ℕ) → cell_of_word (cell_word goal) ≡ goal → seek.goal.place < seek.size
    → ((place : ℕ) → place < seek.size → mark_in a place ≡ 0) → known_in a seek.size ≡ 0 → Lists seek.size a b seek.goal.place
    → Knows seek.size b c seek.goal.place 1 (cell_word goal) → Notes live seek c mid start seek.first false → Begins live seek start goal mid false
begins_false live seek start goal a b c mid back inside none no_list lists knows notes = record {
  over = λ version about.
      (let sound = begins_sound version live seek start goal about a b c back inside none no_list lists knows in
      absurd (false≢true (notes.over version start goal about sound about.from).0));
}

-- ---- what is answered

abbrev or_zero : Option ℕ → ℕ
or_zero None = 0
or_zero (Some n) = n

pub told_of : (version : Versioned) (live : Living) (seek : Seek) (start goal : Cell) → IsAbout version live seek start goal → (state : List ℕ)
    → IsSound version live seek start goal state → IsBegun seek state → seek.first < seek.size → (place : ℕ) (old new : List ℕ) (found : Option ℕ) (count : ℕ)
    → IsLast seek state place → Finishes live seek state place old new found → found ≡ Some count → WritesBest version live.bits start goal old new count
told_of version live seek start goal about state sound begun first place old new found count last finishes is =
    let f = finishes version start goal about sound last.known last.reached last.free in
    let same : f.0 ≡ count = ap or_zero (sym f.1 ∙ is) in
    subst (WritesBest version live.bits start goal old new) same (last_is_best version live seek start goal about state sound begun first place old new f.0 last f.2)

pub some_is : (n : ℕ) → None ≡ Some n → ⊥
some_is n e = cc

-- the two ends that are sought
pub about_ends : (version : Versioned) (live : Living) (seek : Seek) (start goal : Cell) (from to : Home) → IsImageOf live.words version → IsHomeIn live.words start from
    → IsHomeIn live.words goal to → AreLiveEndsIn live start goal → from.label ≡ to.label → seek.first ≡ from.place → seek.goal ≡ to
    → IsAbout version live seek start goal
about_ends version live seek start goal from to image its_from its_to ends label first is =
    let free = ends version image in
    record {
      image = image;
      from =
          subst (λ h. IsHomeOf version start h.label seek.first) (sym is)
          (subst (λ p. IsHomeOf version start to.label p) (sym first) (subst (λ l. IsHomeOf version start l from.place) label (its_from version image)));
      to = subst (λ h. IsHomeOf version goal h.label h.place) (sym is) (its_to version image);
      leaves = clear_passable live version image start free.leaves;
      arrives = clear_passable live version image goal free.arrives;
    }

-- two cells in two components are not joined by the live map either
pub ends_apart : (version : Versioned) (live : Living) (start goal : Cell) (from to : Home) → IsImageOf live.words version → IsHomeIn live.words start from
    → IsHomeIn live.words goal to → (from.label ≡ to.label → ⊥) → Reaches (now version live) start goal → ⊥
ends_apart version live start goal from to image its_from its_to other = (told_apart live version image start goal from to its_from its_to other).live

-- a scratch with too few words
pub few_words : (version : Versioned) (live : Living) (start : Cell) (from to : Home) (size words : ℕ) → IsImageOf live.words version → IsHomeIn live.words start from
    → from.label ≡ to.label → size ≡ size_at live.words (start_in live.words to.label) → words < 8 * size + 1 → HasFewWords version start words
few_words version live start from to size words image its_from label is few =
    let home = subst (λ l. IsHomeOf version start l from.place) label (its_from version image) in
    let shown = size_shown live.words version image to.label home.within in
    record { label = to.label; place = from.place; home = home; few = omega arith }

module _ (live : Living) (seek : Seek) (start goal : Cell) (before after old new : List ℕ)
    (about : (version : Versioned) → IsImageOf live.words version → IsAbout version live seek start goal)
    (begun : (version : Versioned) → IsImageOf live.words version → IsSound version live seek start goal before × IsBegun seek before) where
  pub answered_ok : (result : Result LiveSearch SearchFault) → IsAnswered live seek before after old new result → IfOk result (IsSearchedIn live start goal old new)
  answered_ok (Ok (Found count)) answered = λ version image.
      (let so = begun version image in answered.over version start goal (about version image) so.0 so.1)
  answered_ok (Ok Unreachable) answered = λ version image.
      (let so = begun version image in answered.over version start goal (about version image) so.0 so.1)
  answered_ok (Ok More) answered = λ version image.
      (let so = begun version image in (answered.over version start goal (about version image) so.0 so.1).2)
  answered_ok (Err fault) answered = tt

  pub answered_err : (scratch : List ℕ) (result : Result LiveSearch SearchFault) → IsAnswered live seek before after old new result
      → IfErr result (IsSearchFaultIn live start goal scratch old new)
  answered_err scratch (Ok found) answered = tt
  answered_err scratch (Err (TooSmall needed)) answered = λ version image.
      (let so = begun version image in answered.over version start goal (about version image) so.0 so.1)
  answered_err scratch (Err (Refused why)) answered = λ version image.
      (let so = begun version image in absurd (answered.over version start goal (about version image) so.0 so.1))
  answered_err scratch (Err FewWords) answered = λ version image.
      (let so = begun version image in absurd (answered.over version start goal (about version image) so.0 so.1))
  answered_err scratch (Err Broken) answered = λ version image.
      (let so = begun version image in absurd (answered.over version start goal (about version image) so.0 so.1))

  pub answered_more : (queue : List ℕ) (result : Result LiveSearch SearchFault) → IsAnswered live seek before after old new result → IsSought live seek
      → HasState after seek.size → result ≡ Ok More → IsWaiting live start goal (after ++ queue)
  answered_more queue result answered sought whole more version other its_sought its_about =
      let image = its_about.image in
      let so = begun version image in
      let answer = subst (IsAnswered live seek before after old new) more answered in
      let kept = answer.over version start goal (about version image) so.0 so.1 in
      let same = same_seek version live seek other start goal (about version image) its_about sought its_sought in
      let front : take (8 * seek.size + 1) (after ++ queue) ≡ after = ap (λ n. take n (after ++ queue)) (sym whole) ∙ take-append_seam after queue in
      subst (λ (s : Seek). IsSound version live s start goal (take (8 * s.size + 1) (after ++ queue)) × IsBegun s (take (8 * s.size + 1) (after ++ queue))) same
      (subst (λ front_words. IsSound version live seek start goal front_words × IsBegun seek front_words) (sym front) (kept.0, kept.1))

-- an option has one value
pub count_is : (found : Option ℕ) (a b : ℕ) → found ≡ Some a → found ≡ Some b → a ≡ b
count_is found a b p q = ap or_zero (sym p ∙ q)

pub sought_of : (live : Living) (from to : Home) (size : ℕ) → StandsIn live.words from.label from.place → StandsIn live.words to.label to.place → from.label ≡ to.label
    → size ≡ size_at live.words (start_in live.words to.label) → size ≤ MAX_PASSABLE → IsSought live (record { first = from.place; goal = to; size = size })
sought_of live from to size stands arrives label is few = record {
  goal = arrives;
  first =
      (let here = subst (λ l. from.place < size_at live.words (start_in live.words l)) label stands.place_in in
      omega arith);
  size = is;
  few = few;
}
