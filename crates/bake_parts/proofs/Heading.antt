-- The image of the first version of a map, from its head on.
use Rattle.std.proofs.Common.{◌≡◌, ℕ, ◌+◌, ◌*◌, ◌^◌, ◌<◌, ◌≤◌, List, [], ◌∷◌, ◌++◌, length, take, drop, refl, sym, ap, subst, ◌∙◌, arith}
use Rattle.std.specs.List.{flat_map}
use Rattle.std.proofs.lemmas.List.{take_at, drop_at}
use Rattle.moves.specs.declared.Cell.{Cell}
use Rattle.moves.specs.declared.TheConstants.{MAX_PASSABLE}
use Rattle.moves.specs.Maps.{Map, IsWithinLimits, passable_count}
use Rattle.cell_order.specs.declared.OrderKind.{OrderKind}
use Rattle.cell_order.specs.Orders.{kind_of}
use Rattle.versions.specs.Databases.{Versioned, IsVersion}
use Rattle.path_image.specs.declared.TheConstants.{MAGIC_PATH, MAGIC_IMAGE, FORM, HEAD}
use Rattle.path_image.specs.Images.{IsImageOf, head_of, homes_of, image_of, image_size, starts_of, table_of}
use Rattle.path_image.proofs.Showing.{image_long}
use Rattle.path_image.proofs.Sizes.{few_comps, small_image}
use Rattle.bake_parts.specs.Heads.{BeginsImage, BreaksParts, CountsBefore, SizesImage}
use Rattle.bake_parts.specs.Joins.{AreNoParts, HasAll, PutsWords, SizesTables}
use Rattle.bake_parts.specs.Parts.{IsFirstVersion}
use Rattle.bake_parts.specs.Plans.{AreOrdered}
use Rattle.bake_parts.specs.Rooms.{HasFront, GrowsFront}
use Rattle.bake_parts.proofs.Existing.{first_versions_exist}
use Rattle.bake_parts.proofs.Fronts.{front_none}
use Rattle.bake_parts.proofs.Joining.{words_then}
use Rattle.bake_parts.proofs.Ordering.{comps_size, component_is}

module _ (on : Map) (order : OrderKind) (all : List (List Cell)) (p : AreOrdered on order all) where
  pub has_all : (version : Versioned) → IsFirstVersion on order version → HasAll version all
  has_all version first = record {
    is = first.is;
    long = comps_size on order all p version first;
    each = λ number d within. (component_is on order all p number d within).kept version first;
  }

  -- there are no more components than passable cells
  pub few_all : length all ≤ MAX_PASSABLE
  few_all =
      let one = first_versions_exist on order (record { limits = p.limits; cells = p.whole }) p.searchable in
      let few = few_comps one.version one.first.is in
      let long = comps_size on order all p one.version one.first in
      omega arith

  pub small_first : (version : Versioned) → IsFirstVersion on order version → image_size version < 2 ^ 32
  small_first version first = small_image version first.is (subst (λ m. IsWithinLimits m.width m.height) (sym first.of) p.limits)

  pub before_tables : (w h n : ℕ) → w ≡ on.width → h ≡ on.height → n ≡ length all → CountsBefore (record { on = on; order = order }) (HEAD + w * h + n)
  before_tables w h n width height count version first =
      ap (λ k. HEAD + k * h + n) width ∙ ap (λ k. HEAD + on.width * k + n) height ∙ ap (λ k. HEAD + on.width * on.height + k) (count ∙ sym (comps_size on order all p version first))
      ∙ ap (λ (m : Map). HEAD + m.width * m.height + length version.comps) (sym first.of)

  -- what is said of all versions with the components is said of the first one
  pub breaks_first : (parts : List ℕ) → AreNoParts all parts → BreaksParts (record { on = on; order = order }) parts
  breaks_first parts none version first = none version (has_all version first)

  pub sizes_first : (parts : List ℕ) (before tables : ℕ) → CountsBefore (record { on = on; order = order }) before → SizesTables all parts tables
      → SizesImage (record { on = on; order = order }) parts (before + tables)
  sizes_first parts before tables counts sizes version first are =
      (let a = counts version first in let b = sizes version (has_all version first) are in omega arith)

  pub large_breaks : (parts : List ℕ) (size : ℕ) → 2 ^ 32 ≤ size → SizesImage (record { on = on; order = order }) parts size → BreaksParts (record { on = on; order = order }) parts
  large_breaks parts size large sizes version first are = (let small = small_first version first in let is = sizes version first are in omega arith)

  pub head_is : (size w h k c n : ℕ) → w ≡ on.width → h ≡ on.height → k ≡ kind_of order → c ≡ passable_count on → n ≡ length all
      → BeginsImage (record { on = on; order = order }) size (MAGIC_PATH ∷ MAGIC_IMAGE ∷ FORM ∷ size ∷ w ∷ h ∷ 0 ∷ k ∷ c ∷ n ∷ [])
  head_is size w h k c n width height kind cells comps version first long =
      head_with version size w h 0 k c n long (width ∙ ap (λ (m : Map). m.width) (sym first.of)) (height ∙ ap (λ (m : Map). m.height) (sym first.of)) (sym first.first)
      (kind ∙ ap kind_of (sym first.in_order)) (cells ∙ ap passable_count (sym first.of)) (comps ∙ sym (comps_size on order all p version first))
    where
      head_with : (version : Versioned) (size w h e k c n : ℕ) → size ≡ image_size version → w ≡ version.map.width → h ≡ version.map.height → e ≡ version.prefix
          → k ≡ kind_of version.order → c ≡ passable_count version.map → n ≡ length version.comps
          → MAGIC_PATH ∷ MAGIC_IMAGE ∷ FORM ∷ size ∷ w ∷ h ∷ e ∷ k ∷ c ∷ n ∷ [] ≡ head_of version
      head_with version size w h e k c n a b d f g i j =
          λ x. MAGIC_PATH ∷ MAGIC_IMAGE ∷ FORM ∷ a x ∷ b x ∷ d x ∷ f x ∷ g x ∷ i x ∷ j x ∷ []

-- the parts of an image
pub image_put : (version : Versioned) (one two three end : ℕ) (old a b c new : List ℕ) → PutsWords 0 one old a (head_of version) → PutsWords one two a b (homes_of version)
    → PutsWords two three b c (starts_of version) → PutsWords three end c new (flat_map table_of version.comps) → GrowsFront 0 old new (image_of version)
unfolding image_of
image_put version one two three end old a b c new head homes starts tables =
    (words_then 0 one end old a new (head_of version) (homes_of version ++ (starts_of version ++ flat_map table_of version.comps)) head
    (words_then one two end a b new (homes_of version) (starts_of version ++ flat_map table_of version.comps) homes
    (words_then two three end b c new (starts_of version) (flat_map table_of version.comps) starts tables))).grows

-- the image stands at the front
pub image_there : (version : Versioned) (size : ℕ) (old new : List ℕ) → IsVersion version → size ≡ image_size version → size ≤ length old
    → GrowsFront 0 old new (image_of version) → IsImageOf (take size new) version × (drop size new ≡ drop size old)
image_there version size old new is long fits grows =
    let image = image_of version in
    let same : length image ≡ size = image_long image version (record { of = is; is = refl }) ∙ sym long in
    let front : HasFront old new image = grows old [] refl (front_none old) in
    let now = front.there (omega arith) in (
      record { of = is; is = ap (take size) now ∙ take_at image (drop (length image) old) size same },
      ap (drop size) now ∙ drop_at image (drop (length image) old) size same ∙ ap (λ n. drop n old) same,
    )
