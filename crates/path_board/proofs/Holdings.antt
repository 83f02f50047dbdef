-- The version that a pass holds, as the history grows.
use Rattle.std.proofs.Common.{◌≡◌, ◌≢◌, ℕ, ◌+◌, ◌<◌, ◌≤◌, List, ◌++◌, length, length-append, take, drop, refl, sym, ap, ◌∙◌, subst, arith}
use Rattle.std.proofs.lemmas.List.{take_all, take-append-drop, take-append-le}
use Rattle.versions.specs.Databases.{Versioned, IsVersion}
use Rattle.path_core.specs.declared.entry.Entry.{Entry}
use Rattle.path_core.specs.Boards.{Boarded}
use Rattle.path_core.specs.Histories.{accepted_count, map_at, published_prefix, IsLegal, IsVersionAt}
use Rattle.path_core.proofs.Bounds.{legal_histories_are_bounded, published_prefixes_rise}
use Rattle.path_core.proofs.Growing.{accepted_edits_stay}
use Rattle.path_board.specs.declared.state.Foundation.{Foundation}
use Rattle.path_board.specs.Holding.{IsHeld}
use Rattle.path_board.specs.Passes.{IsBoardAt}

-- a version that is held is held as more is seen
pub held_on : (base : Foundation) (seen more after : List Entry) (count : ℕ) (version : Versioned) → after ≡ seen ++ more → IsHeld base seen count version
    → IsHeld base after count version
held_on base seen more after count version grown h =
    let long : length after ≡ length seen + length more = ap length grown ∙ length-append seen more in
    let few = h.few in
    let same : take count seen ≡ take count after = sym (ap (take count) grown ∙ take-append-le count seen more h.few) in
    record {
      few = omega arith;
      prefix_is = subst (λ first. version.prefix ≡ published_prefix first) same h.prefix_is;
      accepted = subst (λ first. version.prefix ≤ accepted_count first) same h.accepted;
      map_is = subst (λ first. version.map ≡ map_at base.start first version.prefix) same h.map_is;
      order_is = h.order_is;
    }

-- what is seen goes on from those entries
cut : (seen : List Entry) (count : ℕ) → seen ≡ take count seen ++ drop count seen
cut seen count = sym (take-append-drop count seen)

-- the held version comes after edits that were seen to be accepted
pub held_accepted : (base : Foundation) (seen : List Entry) (count : ℕ) (version : Versioned) → IsHeld base seen count version → version.prefix ≤ accepted_count seen
held_accepted base seen count version h =
    let first = h.accepted in
    let more = (accepted_edits_stay base.start base.order (take count seen) (drop count seen)).accepted in
    let whole : accepted_count (take count seen) ≤ accepted_count seen = subst (λ l. accepted_count (take count seen) ≤ accepted_count l) (sym (cut seen count)) more in
    omega arith

-- its map is that after those edits
pub held_map : (base : Foundation) (seen : List Entry) (count : ℕ) (version : Versioned) → IsHeld base seen count version → version.map ≡ map_at base.start seen version.prefix
held_map base seen count version h =
    let more = (accepted_edits_stay base.start base.order (take count seen) (drop count seen)).maps version.prefix h.accepted in
    let whole : map_at base.start seen version.prefix ≡ map_at base.start (take count seen) version.prefix =
    subst (λ l. map_at base.start l version.prefix ≡ map_at base.start (take count seen) version.prefix) (sym (cut seen count)) more in
    h.map_is ∙ sym whole

-- so it is the version of its prefix
pub held_version : (base : Foundation) (seen : List Entry) (count : ℕ) (version : Versioned) → IsHeld base seen count version → IsVersion version
    → IsVersionAt base.start base.order seen version.prefix version
held_version base seen count version h whole = record { map = held_map base seen count version h; after = refl; order = h.order_is; whole = whole }

-- where there are no entries past those, it is the published one
pub held_published : (base : Foundation) (seen : List Entry) (count : ℕ) (version : Versioned) → IsHeld base seen count version → IsVersion version
    → count ≡ length seen → IsVersionAt base.start base.order seen (published_prefix seen) version
held_published base seen count version h whole all =
    let same : take count seen ≡ seen = take_all count seen (omega arith) in
    let prefix : version.prefix ≡ published_prefix seen = subst (λ l. version.prefix ≡ published_prefix l) same h.prefix_is in
    subst (λ k. IsVersionAt base.start base.order seen k version) prefix (held_version base seen count version h whole)

-- where the published version is of its prefix, it is held there
pub held_still : (base : Foundation) (seen : List Entry) (count now : ℕ) (version : Versioned) → IsHeld base seen count version → published_prefix seen ≡ version.prefix
    → now ≡ length seen → IsHeld base seen now version
held_still base seen count now version h prefix all =
    let same : seen ≡ take now seen = sym (take_all now seen (omega arith)) in
    record {
      few = omega arith;
      prefix_is = subst (λ l. version.prefix ≡ published_prefix l) same (sym prefix);
      accepted = subst (λ l. version.prefix ≤ accepted_count l) same (held_accepted base seen count version h);
      map_is = subst (λ l. version.map ≡ map_at base.start l version.prefix) same (held_map base seen count version h);
      order_is = h.order_is;
    }

-- a version that is published is held there
pub held_new : (base : Foundation) (seen : List Entry) (now : ℕ) (version : Versioned) → IsLegal base.start seen
    → IsVersionAt base.start base.order seen (published_prefix seen) version → now ≡ length seen → IsHeld base seen now version
held_new base seen now version legal is all =
    let same : seen ≡ take now seen = sym (take_all now seen (omega arith)) in
    let below = (legal_histories_are_bounded base.start seen legal).published in
    record {
      few = omega arith;
      prefix_is = subst (λ l. version.prefix ≡ published_prefix l) same is.after;
      accepted = subst (λ l. version.prefix ≤ accepted_count l) same (subst (λ k. k ≤ accepted_count seen) (sym is.after) below);
      map_is = subst (λ l. version.map ≡ map_at base.start l version.prefix) same (subst (λ k. version.map ≡ map_at base.start seen k) (sym is.after) is.map);
      order_is = is.order;
    }

-- the published version is not an older one
pub held_below : (base : Foundation) (seen : List Entry) (count : ℕ) (version : Versioned) → IsHeld base seen count version → IsLegal base.start seen
    → version.prefix ≤ published_prefix seen
held_below base seen count version h legal =
    let rise = published_prefixes_rise base.start (take count seen) (drop count seen) (subst (IsLegal base.start) (cut seen count) legal) in
    let whole : published_prefix (take count seen) ≤ published_prefix seen = subst (λ l. published_prefix (take count seen) ≤ published_prefix l) (sym (cut seen count)) rise in
    let first = h.prefix_is in
    omega arith

pub held_older : (base : Foundation) (seen : List Entry) (count : ℕ) (version : Versioned) → IsHeld base seen count version → IsLegal base.start seen
    → published_prefix seen ≢ version.prefix → version.prefix < published_prefix seen
held_older base seen count version h legal other = let below = held_below base seen count version h legal in omega (arith, other)

-- ---- the same where the board at what is seen is known

pub board_legal : (base : Foundation) (seen : List Entry) (board : Boarded) → IsBoardAt base seen board → IsLegal base.start seen
board_legal base seen board at = subst (IsLegal base.start) at.history_is (subst (λ start. IsLegal start board.history) (ap (λ b. b.start) at.base_is) at.sound.legal)

pub board_version : (base : Foundation) (seen : List Entry) (board : Boarded) → IsBoardAt base seen board
    → IsVersionAt base.start base.order seen (published_prefix seen) board.version
board_version base seen board at =
    subst (λ l. IsVersionAt base.start base.order l (published_prefix l) board.version) at.history_is
    (subst (λ b. IsVersionAt b.start b.order board.history (published_prefix board.history) board.version) at.base_is at.sound.version)
