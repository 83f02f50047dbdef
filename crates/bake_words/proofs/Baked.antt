-- An image that stands in a room.
use Rattle.std.proofs.Common.{◌≡◌, ℕ, ◌*◌, ◌<◌, ◌≤◌, List, ◌++◌, length, get_or, take, drop, refl, sym, ap, ◌∙◌, arith}
use Rattle.std.proofs.Math.Seq.{drop-append_seam, take-append_seam}
use Rattle.moves.specs.Maps.{Map}
use Rattle.cell_order.specs.declared.OrderKind.{OrderKind}
use Rattle.versions.specs.Databases.{Versioned}
use Rattle.path_image.specs.Images.{IsImageOf, image_of, image_size}
use Rattle.path_image.specs.Writing.{bytes_of}
use Rattle.path_image.proofs.Passing.{image_leads_inside}
use Rattle.path_image.proofs.Showing.{image_long}
use Rattle.bake_words.specs.Baking.{BakesInto, IsFirstVersion, word_of_bytes}
use Rattle.bake_words.proofs.Bytes.{bytes_long, words_back}
use Rattle.bake_words.proofs.Fitting.{image_fits}

module _ (m : Map) (order : OrderKind) (version : Versioned) (first : IsFirstVersion m order version) where
  whole : length (image_of version) ≡ image_size version
  whole = image_long (image_of version) version (record { of = first.is; is = refl })

  -- how many bytes an image has
  pub image_bytes_long : (bytes : List ℕ) → bytes ≡ bytes_of (image_of version) → length bytes ≡ 4 * image_size version
  image_bytes_long bytes same = ap length same ∙ bytes_long (image_of version) ∙ ap (λ n. 4 * n) whole

  -- the words of the image stand in front of what a room had
  pub baked : (bytes part old new : List ℕ) (count : ℕ) → bytes ≡ bytes_of (image_of version) → count ≡ image_size version → length part ≡ count
      → ((k : ℕ) → k < length part → get_or part k 0 ≡ word_of_bytes bytes k) → count ≤ length old → new ≡ part ++ drop count old
      → BakesInto m order old new count
  baked bytes part old new count same size long each inside is =
      let prefix = first.first in
      let fits = image_fits version first.is first.sides (omega arith) in
      let read : part ≡ image_of version = words_back bytes (image_of version) part same fits (let w = whole in omega arith) each in
      let front : take count new ≡ part =
      ap (take count) is ∙ ap (λ n. take n (part ++ drop count old)) (sym long) ∙ take-append_seam part (drop count old) in
      let behind : drop count new ≡ drop count old =
      ap (drop count) is ∙ ap (λ n. drop n (part ++ drop count old)) (sym long) ∙ drop-append_seam part (drop count old) in
      let image : IsImageOf (take count new) version = record { of = first.is; is = front ∙ read } in
      record {
        version = version;
        first = first;
        inside = inside;
        image = image;
        passes = image_leads_inside (take count new) version image first.sides;
        rest = behind;
      }
