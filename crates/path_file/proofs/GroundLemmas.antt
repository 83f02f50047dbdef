-- The terrain of a file, cell by cell.
use Rattle.std.proofs.Common.{◌≡◌, ℕ, ◌+◌, ◌*◌, ◌<◌, ◌≤◌, cond, List, [], ◌∷◌, ◌++◌, length, take, set, refl, sym, ap, ◌∙◌, subst, inl, inr, append_assoc, arith}
use Rattle.std.proofs.lemmas.List.{take_more_set, take_all, map-append, append-nil, length-take-le}
use Rattle.std.proofs.lemmas.List.Sums.{sum_by_push}
use Rattle.moves.specs.declared.Terrain.{Terrain}
use Rattle.moves.specs.declared.TheConstants.{MAX_PASSABLE}
use Rattle.moves.specs.Maps.{is_passable}
use Rattle.path_file.specs.declared.fault.DbFault.{DbFault}
use Rattle.path_file.specs.declared.head.Head.{Head}
use Rattle.path_file.specs.Files.{head_bytes, ground_bytes, terrain_byte}
use Rattle.path_file.specs.Fields.{HasField, IsHead, IsGroundSoFar, at_ground, free_in}
use Rattle.path_file.specs.Faults.{HasByte, IsFirstDbFault}
use Rattle.path_file.specs.Readings.{Reading, IsBadByte, IsCutAt, Passes, front}
use Rattle.path_file.proofs.Opening.{cut_here, byte_here}

-- the terrain of so many cells is read, of which so many are passable
pub record IsGroundTo (old now : Reading) (head : Head) (cells : List Terrain) (place free : ℕ) : Type 0 where
  pub same : now.bytes ≡ old.bytes
  pub front : front now ≡ head_bytes head ++ ground_bytes (take place cells)
  pub count : free ≡ free_in (take place cells)
  pub few : free ≤ MAX_PASSABLE

pub ground_none : (old : Reading) (head : Head) (cells : List Terrain) → front old ≡ head_bytes head → IsGroundTo old old head cells 0 0
ground_none old head cells at = record { same = refl; front = at ∙ sym (append-nil (head_bytes head)); count = refl; few = omega arith }

module _ (old now : Reading) (head : Head) (cells : List Terrain) (place free : ℕ) (is : IsHead head) (whole : length cells ≡ head.width * head.height)
    (p : IsGroundTo old now head cells place free) where
  module _ (less : place < length cells) where
    so_far : IsGroundSoFar head (take place cells)
    so_far = record {
      sides = is;
      inside = omega (arith, length-take-le place cells (omega arith));
      few = subst (λ n. n ≤ MAX_PASSABLE) p.count p.few;
    }

    pub ground_cut : (fault : DbFault) → IsCutAt now 1 fault → IsFirstDbFault old.bytes fault
    ground_cut fault cut =
        subst (λ bytes. IsFirstDbFault bytes fault) p.same (cut_here now (at_ground head (take place cells)) so_far p.front fault 1 refl cut)

    pub ground_bad : (after : Reading) (byte : ℕ) (fault : DbFault) → Passes now after (byte ∷ []) → IsBadByte byte place free fault → IsFirstDbFault old.bytes fault
    ground_bad after byte fault passed (inl none) =
        let field = byte_here now (at_ground head (take place cells)) so_far p.front after byte passed in
        subst (IsFirstDbFault old.bytes) (sym none.1) (record {
          head = head;
          cells = take place cells;
          place_is = sym (length-take-le place cells (omega arith));
          field = subst (λ bytes. HasField bytes (at_ground head (take place cells)) (HasByte byte)) p.same field;
          none = none.0;
        })
    ground_bad after byte fault passed (inr full) =
        let field = byte_here now (at_ground head (take place cells)) so_far p.front after byte passed in
        subst (IsFirstDbFault old.bytes) (sym full.2) (record {
          head = head;
          cells = take place cells;
          place_is = sym (length-take-le place cells (omega arith));
          byte = byte;
          field = subst (λ bytes. HasField bytes (at_ground head (take place cells)) (HasByte byte)) p.same field;
          passable = full.0;
          full = (let most = p.few in let least = full.1 in omega (arith, p.count));
        })

    pub ground_more : (after : Reading) (byte : ℕ) (terrain : Terrain) (more : ℕ) → Passes now after (byte ∷ []) → terrain_byte terrain ≡ byte
        → more ≡ free + cond (is_passable terrain) 1 0 → more ≤ MAX_PASSABLE → IsGroundTo old after head (set cells place terrain) (place + 1) more
    ground_more after byte terrain more passed stands count few =
        let step = take_more_set cells place terrain less in
        record {
          same = passed.same ∙ p.same;
          front = passed.front ∙ ap (λ l. l ++ byte ∷ []) p.front ∙ append_assoc (head_bytes head) (ground_bytes (take place cells)) (byte ∷ [])
              ∙ ap (λ b. head_bytes head ++ (ground_bytes (take place cells) ++ b ∷ [])) (sym stands)
              ∙ ap (λ l. head_bytes head ++ l) (sym (map-append terrain_byte (take place cells) (terrain ∷ [])))
              ∙ ap (λ l. head_bytes head ++ ground_bytes l) (sym step);
          count = count ∙ ap (λ n. n + cond (is_passable terrain) 1 0) p.count ∙ sym (sum_by_push (λ t. cond {A = ℕ} (is_passable t) 1 0) (take place cells) terrain) ∙ ap free_in (sym step);
          few = few;
        }

  pub ground_all : length cells ≤ place → IsGroundTo old now head cells (length cells) free
  ground_all end =
      let all : take place cells ≡ take (length cells) cells = take_all place cells end ∙ sym (take_all (length cells) cells (omega arith)) in
      record {
        same = p.same;
        front = p.front ∙ ap (λ l. head_bytes head ++ ground_bytes l) all;
        count = p.count ∙ ap free_in all;
        few = p.few;
      }
