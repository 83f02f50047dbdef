-- Events, one after the other.
use Rattle.std.proofs.Common.{◌≡◌, ℕ, suc, ◌+◌, ◌<◌, List, [], ◌∷◌, ◌++◌, length, get_or, take, drop, map, All, Option, None, refl, sym, ap, subst, ◌∙◌, append_assoc, arith, inl, inr}
use Rattle.std.specs.Prelude.{codes, replicate, set}
use Rattle.std.specs.Fmt.{decimal}
use Rattle.std.proofs.lemmas.List.{append-nil, take-append-drop, take_more, map-set, get_or-map, length-set, length-append}
use Rattle.std.proofs.lemmas.List.Elements.{All-set, All-nil, All-push}
use Rattle.std.proofs.Math.Seq.{take-length}
use Rattle.moves.specs.Maps.{Map}
use Rattle.cell_order.specs.declared.OrderKind.{OrderKind}
use Rattle.versions.specs.Databases.{Versioned}
use Rattle.version_build.specs.Builders.{Building}
use Rattle.edit_log.specs.Edits.{ChangesInside}
use Rattle.path_core.specs.declared.entry.Entry.{Entry}
use Rattle.path_core.specs.Boards.{Boarded}
use Rattle.path_core.specs.Histories.{map_at, published_prefix, IsVersionAt}
use Rattle.path_replay.specs.declared.TheConstants.{PASSES}
use Rattle.path_replay.specs.declared.event.Event.{Event}
use Rattle.path_replay.specs.Events.{pass_of}
use Rattle.path_replay.specs.Texts.{pass_line}
use Rattle.path_replay.specs.Replays.{Replaying, fresh_pass, first_state, state_of, IsSaidOf, IsStep, Replays, IsReplay, IsCut}
use Rattle.path_replay.specs.Inside.{Holding, standing_of, replaying_of, AddsLine, AddsSaid, ArePasses, AreFresh, Grows, HasEntered, HasStepped, IsCutOff, IsCutShort, IsReplayable, IsSound}
use Rattle.path_replay.proofs.Holdings.{all_sound_grown}

-- ---- one event

-- how a pass stands is told by what it holds and builds
state_is : (history : List Entry) (passes : List Holding) (number : ℕ) (d : Holding) → number < length passes
    → state_of (replaying_of history passes) number ≡ standing_of (get_or passes number d)
state_is history passes number d within = get_or-map standing_of passes number d fresh_pass within

pub pass_within : (passes : List Holding) (event : Event) (number : ℕ) → number ≡ pass_of event → pass_of event < PASSES → length passes ≡ PASSES
    → number < length passes
pass_within passes event number of below long = rw (of, long) below

-- the pieces of a line
line_whole : (before first next text said : List ℕ) (number : ℕ) → first ≡ before ++ (decimal number ++ codes " ") → next ≡ first ++ said
    → text ≡ next ++ codes "\n" → text ≡ before ++ pass_line number said
line_whole before first next text said number a b c = rw (c, b, a) (simp append_assoc)

pub line_added : (old new : Boarded) (passes after : List Holding) (event : Event) (number : ℕ) (d pass : Holding) (before first next text : List ℕ)
    → number ≡ pass_of event → number < length passes → first ≡ before ++ (decimal number ++ codes " ")
    → AddsSaid old (get_or passes number d) event new pass first next → text ≡ next ++ codes "\n" → after ≡ set passes number pass
    → AddsLine old passes event new after before text
line_added old new passes after event number d pass before first next text of within a said c set_is = record {
  line = pass_line (pass_of event) said.said;
  is = record {
    said = said.said;
    state = standing_of pass;
    is = subst (λ state. IsSaidOf old.start old.order (record { history = old.history; state = state }) event said.said (record { history = new.history; state = standing_of pass }))
        (sym (ap (state_of (replaying_of old.history passes)) (sym of) ∙ state_is old.history passes number d within)) said.is;
    line_is = refl;
    passes = ap (map standing_of) set_is ∙ map-set standing_of passes number pass ∙ ap (λ n. set (map standing_of passes) n (standing_of pass)) of;
  };
  added = line_whole before first next text said.said number a said.added c ∙ ap (λ n. before ++ pass_line n said.said) of;
}

pub entered_stepped : (old new : Boarded) (passes : List Holding) (event : Event) (number : ℕ) (d : Holding) → number ≡ pass_of event → number < length passes
    → HasEntered old (get_or passes number d) event new → HasStepped old passes event new
entered_stepped old new passes event number d of within entered = record {
  line = pass_line (pass_of event) entered.said;
  after = set (map standing_of passes) (pass_of event) entered.state;
  is = record {
    said = entered.said;
    state = entered.state;
    is = subst (λ state. IsSaidOf old.start old.order (record { history = old.history; state = state }) event entered.said (record { history = new.history; state = entered.state }))
        (sym (ap (state_of (replaying_of old.history passes)) (sym of) ∙ state_is old.history passes number d within)) entered.is;
    line_is = refl;
    passes = refl;
  };
}

pub cut_stepped : (old new : Boarded) (passes : List Holding) (event : Event) (number : ℕ) (d : Holding) → number ≡ pass_of event → number < length passes
    → IsCutShort old (get_or passes number d) event new → IsCutOff old passes event new
cut_stepped old new passes event number d of within cut = elim cut [
  | inl same ↦ inl same
  | inr entered ↦ inr (entered_stepped old new passes event number d of within entered)
]

-- what was said of an event is entered, even if its line is cut off
pub said_entered : (old new : Boarded) (pass after : Holding) (event : Event) (before text : List ℕ) → AddsSaid old pass event new after before text
    → HasEntered old pass event new
said_entered old new pass after event before text said = record { said = said.said; state = standing_of after; is = said.is }

pub passes_set : (old new : Boarded) (passes after : List Holding) (number : ℕ) (pass : Holding) → ArePasses old passes → Grows old new → IsReplayable new
    → IsSound new pass → after ≡ set passes number pass → ArePasses new after
passes_set old new passes after number pass are grows replayable sound is = record {
  long = ap length is ∙ length-set passes number pass ∙ are.long;
  sound = rw is (All-set (IsSound new) passes number pass sound (all_sound_grown old new grows passes are.sound));
  replayable = replayable;
}

-- ---- all events

pub replays_more : (start : Map) (order : OrderKind) (old : Replaying) (events : List Event) (text : List ℕ) (mid : Replaying) (event : Event) (line : List ℕ) (new : Replaying)
    → Replays start order old events text mid → IsStep start order mid event line new → Replays start order old (events ++ event ∷ []) (text ++ line) new
replays_more start order old [] text mid event line new so_far step =
    (line, [], new, subst (λ m. IsStep start order m event line new) so_far.1 step, (refl, refl), ap (λ t. t ++ line) so_far.0 ∙ sym (append-nil line))
replays_more start order old (first ∷ events) text mid event line new so_far step = (
  so_far.0,
  so_far.1 ++ line,
  so_far.2,
  so_far.3,
  replays_more start order so_far.2 events so_far.1 mid event line new so_far.4 step,
  ap (λ t. t ++ line) so_far.5 ∙ append_assoc so_far.0 so_far.1 line,
)

-- what was run: the events before a place
pub record IsReplayedTo (old : Boarded) (events : List Event) (place : ℕ) (text : List ℕ) (board : Boarded) (passes : List Holding) : Type 0 where
  pub replays : Replays old.start old.order first_state (take place events) text (replaying_of board.history passes)
  pub passes_are : ArePasses board passes
  pub start : board.start ≡ old.start
  pub order : board.order ≡ old.order
  pub room : board.room ≡ old.room

pub replayed_more : (old : Boarded) (events : List Event) (place : ℕ) (event : Event) (text next : List ℕ) (board after : Boarded) (passes those : List Holding)
    → place < length events → event ≡ get_or events place event → IsReplayedTo old events place text board passes
    → AddsLine board passes event after those text next → ArePasses after those → Grows board after → IsReplayedTo old events (place + 1) next after those
replayed_more old events place event text next board after passes those within is so_far adds are grows =
    let more : take place events ++ event ∷ [] ≡ take (place + 1) events = ap (λ e. take place events ++ e ∷ []) is ∙ sym (take_more events place event within) in
    let step : IsStep old.start old.order (replaying_of board.history passes) event adds.line (replaying_of after.history those) = rw (← so_far.start, ← so_far.order) adds.is in
    record {
      replays = subst (λ es. Replays old.start old.order first_state es next (replaying_of after.history those)) more
          (subst (λ t. Replays old.start old.order first_state (take place events ++ event ∷ []) t (replaying_of after.history those)) (sym adds.added)
          (replays_more old.start old.order first_state (take place events) text (replaying_of board.history passes) event adds.line (replaying_of after.history those) so_far.replays step));
      passes_are = are;
      start = grows.start ∙ so_far.start;
      order = grows.order ∙ so_far.order;
      room = grows.room ∙ so_far.room;
    }

pub replayed_all : (old : Boarded) (events : List Event) (place : ℕ) (text : List ℕ) (board : Boarded) (passes : List Holding) → place ≡ length events
    → IsReplayedTo old events place text board passes → IsReplay old events text board
replayed_all old events place text board passes end so_far = record {
  end = replaying_of board.history passes;
  replays = subst (λ es. Replays old.start old.order first_state es text (replaying_of board.history passes)) (ap (λ n. take n events) end ∙ take-length events) so_far.replays;
  history = refl;
}

pub replayed_cut : (old : Boarded) (events : List Event) (place : ℕ) (event : Event) (text : List ℕ) (board after : Boarded) (passes : List Holding)
    → place < length events → event ≡ get_or events place event → IsReplayedTo old events place text board passes
    → IsCutOff board passes event after → IsCut old events after
replayed_cut old events place event text board after passes within is so_far cut = elim cut [
  | inl same ↦ record {
    done = take place events;
    more = drop place events;
    split = sym (take-append-drop place events);
    lines = text;
    replay = record { end = replaying_of board.history passes; replays = so_far.replays; history = same };
  }
  | inr stepped ↦
      let more : take place events ++ event ∷ [] ≡ take (place + 1) events = ap (λ e. take place events ++ e ∷ []) is ∙ sym (take_more events place event within) in
      let step : IsStep old.start old.order (replaying_of board.history passes) event stepped.line (record { history = after.history; passes = stepped.after }) =
      rw (← so_far.start, ← so_far.order) stepped.is in
      record {
        done = take (place + 1) events;
        more = drop (place + 1) events;
        split = sym (take-append-drop (place + 1) events);
        lines = text ++ stepped.line;
        replay = record {
          end = record { history = after.history; passes = stepped.after };
          replays = subst (λ es. Replays old.start old.order first_state es (text ++ stepped.line) (record { history = after.history; passes = stepped.after })) more
              (replays_more old.start old.order first_state (take place events) text (replaying_of board.history passes) event stepped.line _ so_far.replays step);
          history = refl;
        };
      }
]

-- ---- before the first event

fresh_is : (version : Versioned) (building : Option Building) → version.prefix ≡ 0 → building ≡ None
    → standing_of (record { version = version; building = building }) ≡ fresh_pass
fresh_is version building none nothing = rw (none, nothing) refl

fresh_states : (version : Versioned) (passes : List Holding) → version.prefix ≡ 0
    → All (λ pass. (pass.version ≡ version) × (pass.building ≡ None)) passes → map standing_of passes ≡ replicate (length passes) fresh_pass
fresh_states version [] none all = refl
fresh_states version (pass ∷ passes) none all =
    let first = all 0 pass (omega arith) in
    let head = fresh_is pass.version pass.building (ap (λ v. v.prefix) first.0 ∙ none) first.1 in
    let rest = fresh_states version passes none (λ k d lt. all (suc k) d (omega (arith, lt))) in
    ap (λ p. p ∷ map standing_of passes) head ∙ ap (λ ps. fresh_pass ∷ ps) rest

-- passes that were made so far
pub record AreFreshTo (board : Boarded) (count : ℕ) (passes : List Holding) : Type 0 where
  pub long : length passes ≡ count
  pub each : All (λ pass. (pass.version ≡ board.version) × (pass.building ≡ None)) passes

pub none_fresh : (board : Boarded) (passes : List Holding) → passes ≡ [] → AreFreshTo board 0 passes
none_fresh board passes none = rw none (record { long = refl; each = All-nil (λ pass. (pass.version ≡ board.version) × (pass.building ≡ None)) })

pub one_more_fresh : (board : Boarded) (count : ℕ) (passes after : List Holding) (pass : Holding) → AreFreshTo board count passes → pass.version ≡ board.version
    → pass.building ≡ None → after ≡ passes ++ pass ∷ [] → AreFreshTo board (count + 1) after
one_more_fresh board count passes after pass are version building is = rw is (record {
  long = omega (arith, are.long, length-append passes (pass ∷ []));
  each = All-push (λ pass. (pass.version ≡ board.version) × (pass.building ≡ None)) passes pass are.each (version, building);
})

pub all_fresh : (board : Boarded) (count : ℕ) (passes : List Holding) → count ≡ PASSES → IsVersionAt board.start board.order board.history (published_prefix board.history) board.version
    → AreFreshTo board count passes → AreFresh board passes
all_fresh board count passes end version are = record { long = are.long ∙ end; each = are.each; version = version }

first_sound : (board : Boarded) → board.history ≡ [] → IsVersionAt board.start board.order board.history (published_prefix board.history) board.version
    → (pass : Holding) → pass.version ≡ board.version → pass.building ≡ None → IsSound board pass
first_sound board none is pass version building =
    let first : board.version.prefix ≡ 0 = is.after ∙ ap published_prefix none in
    let at : IsVersionAt board.start board.order board.history board.version.prefix board.version =
    record { map = is.map ∙ ap (map_at board.start board.history) (sym is.after); after = refl; order = is.order; whole = is.whole } in
    record {
      version = rw version at;
      within = rw (version, first) (omega arith);
      building = rw building tt;
    }

pub replayed_none : (old board : Boarded) (events : List Event) (text : List ℕ) (passes : List Holding) → board ≡ old → old.history ≡ [] → text ≡ []
    → AreFresh board passes → IsReplayedTo old events 0 text board passes
replayed_none old board events text passes same none empty fresh =
    let nothing : board.history ≡ [] = ap (λ b. b.history) same ∙ none in
    let is : IsVersionAt board.start board.order board.history (published_prefix board.history) board.version = fresh.version in
    let prefix : board.version.prefix ≡ 0 = is.after ∙ ap published_prefix nothing in
    let states : map standing_of passes ≡ replicate PASSES fresh_pass = fresh_states board.version passes prefix fresh.each ∙ ap (λ n. replicate n fresh_pass) fresh.long in
    let map_is : board.version.map ≡ board.start = is.map ∙ ap (λ h. map_at board.start h (published_prefix h)) nothing in
    record {
      replays = (empty, rw (nothing, states) refl);
      passes_are = record {
        long = fresh.long;
        sound = λ k d lt. first_sound board nothing is (get_or passes k d) (fresh.each k d lt).0 (fresh.each k d lt).1;
        replayable = record {
          inside = rw nothing (All-nil (ChangesInside board.start));
          searchable = rw (nothing, ← map_is) is.whole.searchable;
        };
      };
      start = ap (λ b. b.start) same;
      order = ap (λ b. b.order) same;
      room = ap (λ b. b.room) same;
    }
