-- A watch over messages, byte by byte.
use Rattle.std.proofs.Common.{◌≡◌, ℕ, ◌+◌, ◌-◌, ◌*◌, ◌/◌, ◌%◌, ◌^◌, ◌<◌, ◌≤◌, ◌==◌, ◌&&◌, List, [], ◌∷◌, ◌++◌, length, Some, true, false, inl, inr, refl, sym, ap, subst, ◌∙◌, append_assoc, length-append, arith}
use Rattle.std.specs.Prelude.{◌↔◌}
use Rattle.std.specs.List.{flat_map}
use Rattle.std.proofs.lemmas.Bool.{cases_lt, false≢true}
use Rattle.std.proofs.lemmas.Bool.Decides.{nat_tests}
use Rattle.std.proofs.lemmas.List.{append-nil}
use Rattle.std.proofs.lemmas.List.Concat.{flat_map-append}
use Rattle.std.proofs.lemmas.List.Elements.{All-head, All-push, All-tail}
use Rattle.wire.specs.Messages.{AreCut, AreWhole, HasNoWhole, HasSize, last_of, sent}
use Rattle.wire.specs.Watching.{HasFollowed, IsInside, IsPlaceOf}
use Rattle.wire.specs.declared.frame_watch.FrameWatch.{FrameWatch}
use Rattle.wire.specs.declared.frame_watch.Place.{Place}
use Rattle.wire.specs.declared.frame_watch.Place.TheVariants.{Between, Length, Inside}
use Rattle.wire.specs.declared.frame_watch.Spoken.{Spoken}
use Rattle.wire.specs.declared.frame_watch.Spoken.TheVariants.{Frames, Asks}
use Rattle.wire.specs.declared.patience.Awaited.TheVariants.{Frame, Ask, Rest}

-- the last of messages behind which one more stands is that one
pub last_pushed : (messages : List (List ℕ)) (message : List ℕ) → last_of (messages ++ message ∷ []) ≡ Some message
last_pushed [] message = refl
last_pushed (first ∷ []) message = refl
last_pushed (first ∷ second ∷ messages) message = last_pushed (second ∷ messages) message

-- two numbers with the same two bytes are one
same_halves : (a b : ℕ) → a / 256 ≡ b / 256 → a % 256 ≡ b % 256 → a ≡ b
same_halves a b high low = omega (arith, high, low)

head_same : (x y : ℕ) (xs ys : List ℕ) → x ∷ xs ≡ y ∷ ys → x ≡ y
head_same x y xs ys e = grind arith

tail_same : (x y : ℕ) (xs ys : List ℕ) → x ∷ xs ≡ y ∷ ys → xs ≡ ys
tail_same x y xs ys e = grind arith

-- lists of one length in front of others are one
same_front : (xs ys r s : List ℕ) → length xs ≡ length ys → xs ++ r ≡ ys ++ s → (xs ≡ ys) × (r ≡ s)
same_front [] [] r s long e = (refl, e)
same_front [] (y ∷ ys) r s long e = absurd (omega (arith, long))
same_front (x ∷ xs) [] r s long e = absurd (omega (arith, long))
same_front (x ∷ xs) (y ∷ ys) r s long e =
    let rest = same_front xs ys r s (omega (arith, long)) (tail_same _ _ _ _ e) in
    let first = head_same _ _ _ _ e in
    (grind (arith, first, rest.0), rest.1)

-- a message that stands at the front is the only one that does
pub same_message : (spoken : Spoken) (one other r s : List ℕ) → HasSize spoken one → HasSize spoken other
    → sent spoken one ++ r ≡ sent spoken other ++ s → (one ≡ other) × (r ≡ s)
same_message Frames one other r s first second e =
    let high = head_same _ _ _ _ e in
    let low = head_same _ _ _ _ (tail_same _ _ _ _ e) in
    same_front one other r s (same_halves _ _ high low) (tail_same _ _ _ _ (tail_same _ _ _ _ e))
same_message (Asks size) one other r s first second e = same_front one other r s (first ∙ sym second) e

-- bytes are cut in one way
pub same_cut : (spoken : Spoken) (first second : List (List ℕ)) (bytes r s : List ℕ)
    → AreCut spoken bytes first r → AreCut spoken bytes second s → (first ≡ second) × (r ≡ s)
same_cut spoken [] [] bytes r s p q = (refl, sym p.joined ∙ q.joined)
same_cut spoken [] (m ∷ ms) bytes r s p q =
    absurd (p.none m (flat_map (sent spoken) ms ++ s) (All-head (HasSize spoken) m ms q.sizes)
    (sym p.joined ∙ q.joined ∙ append_assoc (sent spoken m) (flat_map (sent spoken) ms) s))
same_cut spoken (m ∷ ms) [] bytes r s p q =
    absurd (q.none m (flat_map (sent spoken) ms ++ r) (All-head (HasSize spoken) m ms p.sizes)
    (sym q.joined ∙ p.joined ∙ append_assoc (sent spoken m) (flat_map (sent spoken) ms) r))
same_cut spoken (m ∷ ms) (n ∷ ns) bytes r s p q =
    let same = same_message spoken m n (flat_map (sent spoken) ms ++ r) (flat_map (sent spoken) ns ++ s)
    (All-head (HasSize spoken) m ms p.sizes) (All-head (HasSize spoken) n ns q.sizes)
    (sym (append_assoc (sent spoken m) (flat_map (sent spoken) ms) r) ∙ sym p.joined ∙ q.joined
    ∙ append_assoc (sent spoken n) (flat_map (sent spoken) ns) s) in
    let rest = same_cut spoken ms ns (flat_map (sent spoken) ms ++ r) r s
    (record { joined = refl; sizes = All-tail (HasSize spoken) m ms p.sizes; none = p.none })
    (record { joined = same.1; sizes = All-tail (HasSize spoken) n ns q.sizes; none = q.none }) in
    (grind (arith, same.0, rest.0), rest.1)

-- the asks of a link have bytes
abbrev pub HasBytes : Spoken → Type 0
HasBytes Frames = Unit {0}
HasBytes (Asks size) = 0 < size

-- behind the last whole message no message is whole
pub none_whole : (spoken : Spoken) (rest : List ℕ) (place : Place) → HasBytes spoken → IsPlaceOf spoken rest place → HasNoWhole spoken rest
none_whole Frames rest Between some is message after size e =
    absurd (omega (arith, ap (λ (l : List ℕ). length l) (sym is ∙ e)))
none_whole (Asks all) rest Between some is message after size e =
    absurd (omega (arith, some, size, ap (λ (l : List ℕ). length l) (sym is ∙ e), length-append message after))
none_whole Frames rest (Length high) some is message after size e =
    absurd (omega (arith, ap (λ (l : List ℕ). length l) (sym is.0 ∙ e)))
none_whole (Asks all) rest (Length high) some is message after size e = grind arith
none_whole Frames rest (Inside size left) some ((part, is, long, low), more, begun) message after fits e =
    let both = sym is ∙ e in
    let same = same_halves size (length message) (head_same _ _ _ _ both) (head_same _ _ _ _ (tail_same _ _ _ _ both)) in
    let behind : length part ≡ length (message ++ after) =
    ap (λ (l : List ℕ). length l) (tail_same _ _ _ _ (tail_same _ _ _ _ both)) in
    absurd (omega (arith, same, behind, long, more, length-append message after))
none_whole (Asks all) rest (Inside size left) some ((long, same), more, begun) message after fits e =
    let behind : length rest ≡ length (message ++ after) = ap (λ (l : List ℕ). length l) e in
    absurd (omega (arith, same, behind, long, more, fits, length-append message after))

module _ (spoken : Spoken) (bytes : List ℕ) (messages : List (List ℕ)) (rest : List ℕ) (byte : ℕ)
    (cut : AreCut spoken bytes messages rest) where
  -- a byte more of a message that is not whole yet
  pub cut_on : HasNoWhole spoken (rest ++ byte ∷ []) → AreCut spoken (bytes ++ byte ∷ []) messages (rest ++ byte ∷ [])
  cut_on none = record {
    joined = ap (λ (l : List ℕ). l ++ byte ∷ []) cut.joined ∙ append_assoc (flat_map (sent spoken) messages) rest (byte ∷ []);
    sizes = cut.sizes;
    none = none;
  }

  -- the byte that makes a message whole
  pub cut_whole : (message : List ℕ) → HasSize spoken message → rest ++ byte ∷ [] ≡ sent spoken message → HasNoWhole spoken []
      → AreCut spoken (bytes ++ byte ∷ []) (messages ++ message ∷ []) []
  cut_whole message size whole none = record {
    joined =
        let one : flat_map (sent spoken) (message ∷ []) ≡ sent spoken message = append-nil (sent spoken message) in
        ap (λ (l : List ℕ). l ++ byte ∷ []) cut.joined
        ∙ append_assoc (flat_map (sent spoken) messages) rest (byte ∷ [])
        ∙ ap (λ (l : List ℕ). flat_map (sent spoken) messages ++ l) (whole ∙ sym one)
        ∙ sym (flat_map-append (sent spoken) messages (message ∷ []))
        ∙ sym (append-nil (flat_map (sent spoken) (messages ++ message ∷ [])));
    sizes = All-push (HasSize spoken) messages message cut.sizes size;
    none = none;
  }

-- where a rest has no whole message, asks have bytes
has_bytes : (spoken : Spoken) (rest : List ℕ) → HasNoWhole spoken rest → HasBytes spoken
has_bytes Frames rest none = tt
has_bytes (Asks size) rest none = elim (cases_lt 0 size) [
  | inl some ↦ some
  | inr few ↦
      let zero : length {A = ℕ} [] ≡ size = omega (arith, few) in
      absurd (none [] rest zero refl)
]

-- one byte more of a message of which more than one is missing
inside_more : (spoken : Spoken) (rest : List ℕ) (size left byte : ℕ) → IsInside spoken rest size left → 1 < left
    → IsInside spoken (rest ++ byte ∷ []) size (left - 1)
inside_more Frames rest size left byte (part, is, long, low) more =
    (part ++ byte ∷ [], ap (λ (l : List ℕ). l ++ byte ∷ []) is, omega (arith, long, more, length-append part (byte ∷ [])), low)
inside_more (Asks all) rest size left byte (long, same) more =
    (omega (arith, long, more, length-append rest (byte ∷ [])), same)

-- a message that the next byte makes whole
record IsMadeWhole (spoken : Spoken) (rest : List ℕ) (size byte : ℕ) : Type 0 where
  message : List ℕ
  front : List ℕ
  is : message ≡ front ++ byte ∷ []
  fits : HasSize spoken message
  whole : rest ++ byte ∷ [] ≡ sent spoken message
  long : length message ≡ size

made_whole : (spoken : Spoken) (rest : List ℕ) (size left byte : ℕ) → IsInside spoken rest size left → 0 < left → left ≤ 1
    → IsMadeWhole spoken rest size byte
made_whole Frames rest size left byte (part, is, long, low) some last =
    let all : length (part ++ byte ∷ []) ≡ size = omega (arith, long, some, last, length-append part (byte ∷ [])) in
    record {
      message = part ++ byte ∷ [];
      front = part;
      is = refl;
      fits = omega (arith, all, low);
      whole = ap (λ (l : List ℕ). l ++ byte ∷ []) is
          ∙ ap (λ n. n / 256 ∷ n % 256 ∷ part ++ byte ∷ []) (sym all);
      long = all;
    }
made_whole (Asks all) rest size left byte (long, same) some last =
    let whole : length (rest ++ byte ∷ []) ≡ size = omega (arith, long, some, last, length-append rest (byte ∷ [])) in
    record { message = rest ++ byte ∷ []; front = rest; is = refl; fits = whole ∙ same; whole = refl; long = whole }

same_some : (x y : List ℕ) → Some x ≡ Some y → x ≡ y
same_some x y e = grind arith

-- whether a message that ends in this byte is that byte alone
alone : (front : List ℕ) (size byte code : ℕ) (message : List ℕ) → message ≡ front ++ byte ∷ [] → length message ≡ size
    → (((size == 1) && (byte == code)) ≡ true) ↔ (message ≡ code ∷ [])
alone [] size byte code message is long =
    let one : size ≡ 1 = omega (arith, long, ap (λ (l : List ℕ). length l) is) in (
      λ both.
          let same : byte ≡ code = grind (arith, nat_tests, both) in
          is ∙ ap (λ n. n ∷ []) same,
      λ e.
          let same : byte ≡ code = head_same _ _ _ _ (sym is ∙ e) in
          grind (arith, nat_tests, one, same),
    )
alone (first ∷ front) size byte code message is long =
    let behind : length message ≡ length front + 2 = ap (λ (l : List ℕ). length l) is ∙ omega (arith, length-append front (byte ∷ [])) in (
      λ both.
          let one : size ≡ 1 = grind (arith, nat_tests, both) in
          absurd (omega (arith, one, long, behind)),
      λ e. absurd (omega (arith, behind, ap (λ (l : List ℕ). length l) e)),
    )

module _ (watch : FrameWatch) (before : List ℕ) (byte : ℕ) (f : HasFollowed watch before) where
  bytes_of : HasBytes watch.spoken
  bytes_of = has_bytes watch.spoken f.rest f.cut.none

  empty_none : HasNoWhole watch.spoken []
  empty_none = none_whole watch.spoken [] Between bytes_of refl

  -- the place, where it is known
  placed : (place : Place) → watch.place ≡ place → IsPlaceOf watch.spoken f.rest place
  placed place at = subst (λ (p : Place). IsPlaceOf watch.spoken f.rest p) at f.place

  -- the watch at another place, where that is the one behind this byte
  at_place : (place : Place) → IsPlaceOf watch.spoken (f.rest ++ byte ∷ []) place
      → HasFollowed (record watch { place = place }) (before ++ byte ∷ [])
  at_place place is = record {
    messages = f.messages;
    rest = f.rest ++ byte ∷ [];
    cut = cut_on watch.spoken before f.messages f.rest byte f.cut (none_whole watch.spoken (f.rest ++ byte ∷ []) place bytes_of is);
    place = is;
    stop = f.stop;
  }

  more_bytes : 0 < length (f.rest ++ byte ∷ [])
  more_bytes = omega (arith, length-append f.rest (byte ∷ []))

  -- behind the first byte of a length
  pub followed_length : watch.place ≡ Between → watch.spoken ≡ Frames
      → HasFollowed (record watch { place = Length byte }) (before ++ byte ∷ [])
  followed_length at frames =
      at_place (Length byte) (ap (λ (l : List ℕ). l ++ byte ∷ []) (placed Between at), frames)

  -- behind a length of some bytes
  pub followed_size : (high size : ℕ) → watch.place ≡ Length high → byte < 256 → size < 2 ^ 16 → size ≡ high * 256 + byte → 0 < size
      → HasFollowed (record watch { place = Inside size size }) (before ++ byte ∷ [])
  followed_size high size at low fits is some =
      let there = placed (Length high) at in
      let first : high ≡ size / 256 = omega (arith, is, low) in
      let second : byte ≡ size % 256 = omega (arith, is, low) in
      let bytes : f.rest ++ byte ∷ [] ≡ size / 256 ∷ size % 256 ∷ [] =
      ap (λ (l : List ℕ). l ++ byte ∷ []) there.0 ∙ ap (λ n. n ∷ byte ∷ []) first ∙ ap (λ n. size / 256 ∷ n ∷ []) second in
      at_place (Inside size size)
      (subst (λ (s : Spoken). IsInside s (f.rest ++ byte ∷ []) size size) (sym there.1) ([], bytes, omega arith, fits), some, more_bytes)

  -- behind the length of an empty frame
  pub followed_empty : (high : ℕ) → watch.place ≡ Length high → 0 ≡ high * 256 + byte
      → HasFollowed (record watch { place = Between; stop = false }) (before ++ byte ∷ [])
  followed_empty high at is =
      let there = placed (Length high) at in
      let first : high ≡ 0 = omega (arith, is) in
      let second : byte ≡ 0 = omega (arith, is) in
      let bytes : f.rest ++ byte ∷ [] ≡ 0 ∷ 0 ∷ [] =
      ap (λ (l : List ℕ). l ++ byte ∷ []) there.0 ∙ ap (λ n. n ∷ byte ∷ []) first ∙ ap (λ n. 0 ∷ n ∷ []) second in
      let fits : HasSize watch.spoken [] = subst (λ (s : Spoken). HasSize s []) (sym there.1) (omega arith) in
      let whole : f.rest ++ byte ∷ [] ≡ sent watch.spoken [] =
      subst (λ (s : Spoken). f.rest ++ byte ∷ [] ≡ sent s []) (sym there.1) bytes in
      record {
        messages = f.messages ++ [] ∷ [];
        rest = [];
        cut = cut_whole watch.spoken before f.messages f.rest byte f.cut [] fits whole empty_none;
        place = refl;
        stop = (
          λ e. absurd (false≢true e),
          λ e. absurd (omega (arith, ap (λ (l : List ℕ). length l) (same_some _ _ (sym (last_pushed f.messages []) ∙ e)))),
        );
      }

  -- inside a message of which more bytes are missing
  pub followed_more : (size left : ℕ) → IsInside watch.spoken f.rest size left → 1 < left
      → HasFollowed (record watch { place = Inside size (left - 1) }) (before ++ byte ∷ [])
  followed_more size left inside more =
      at_place (Inside size (left - 1)) (inside_more watch.spoken f.rest size left byte inside more, omega (arith, more), more_bytes)

  -- behind the last byte of a message
  pub followed_whole : (size left : ℕ) → IsInside watch.spoken f.rest size left → 0 < left → left ≤ 1
      → HasFollowed (record watch { place = Between; stop = (size == 1) && (byte == watch.speech.stop) }) (before ++ byte ∷ [])
  followed_whole size left inside some last =
      let made = made_whole watch.spoken f.rest size left byte inside some last in
      let only = alone made.front size byte watch.speech.stop made.message made.is made.long in
      record {
        messages = f.messages ++ made.message ∷ [];
        rest = [];
        cut = cut_whole watch.spoken before f.messages f.rest byte f.cut made.message made.fits made.whole empty_none;
        place = refl;
        stop = (
          λ t. last_pushed f.messages made.message ∙ ap Some (only.0 t),
          λ e. only.1 (same_some _ _ (sym (last_pushed f.messages made.message) ∙ e)),
        );
      }

  -- inside a message, as the code goes on
  pub followed_inside : (result : FrameWatch) (size left : ℕ) → IsInside watch.spoken f.rest size left → 0 < left
      → (1 < left → result ≡ record watch { place = Inside size (left - 1) })
      → (left ≤ 1 → result ≡ record watch { place = Between; stop = (size == 1) && (byte == watch.speech.stop) })
      → HasFollowed result (before ++ byte ∷ [])
  followed_inside result size left inside some more whole = elim (cases_lt 1 left) [
    | inl many ↦ subst (λ (w : FrameWatch). HasFollowed w (before ++ byte ∷ [])) (sym (more many)) (followed_more size left inside many)
    | inr last ↦ subst (λ (w : FrameWatch). HasFollowed w (before ++ byte ∷ [])) (sym (whole last)) (followed_whole size left inside some last)
  ]

  -- behind a length, as the code goes on
  pub followed_begun : (result : FrameWatch) (high size : ℕ) → watch.place ≡ Length high → byte < 256 → size < 2 ^ 16 → size ≡ high * 256 + byte
      → (0 < size → result ≡ record watch { place = Inside size size })
      → (size ≡ 0 → result ≡ record watch { place = Between; stop = false })
      → HasFollowed result (before ++ byte ∷ [])
  followed_begun result high size at low fits is begun empty = elim (cases_lt 0 size) [
    | inl some ↦ subst (λ (w : FrameWatch). HasFollowed w (before ++ byte ∷ [])) (sym (begun some)) (followed_size high size at low fits is some)
    | inr few ↦
        let zero : size ≡ 0 = omega (arith, few) in
        subst (λ (w : FrameWatch). HasFollowed w (before ++ byte ∷ [])) (sym (empty zero)) (followed_empty high at (sym zero ∙ is))
  ]

-- an ask that has not begun misses all of its bytes
pub ask_begins : (watch : FrameWatch) (before : List ℕ) (f : HasFollowed watch before) (size : ℕ) → watch.place ≡ Between → watch.spoken ≡ Asks size
    → IsInside watch.spoken f.rest size size × (0 < size)
ask_begins watch before f size at asks =
    let none : f.rest ≡ [] = placed watch before 0 f Between at in
    let some : HasBytes (Asks size) = subst HasBytes asks (bytes_of watch before 0 f) in
    (subst (λ (s : Spoken). IsInside s f.rest size size) (sym asks) (omega (arith, ap (λ (l : List ℕ). length l) none), refl), some)

module _ (watch : FrameWatch) (bytes : List ℕ) (f : HasFollowed watch bytes) where
  -- at a place between messages all bytes are whole messages
  pub between_whole : watch.place ≡ Between → AreWhole watch.spoken bytes
  between_whole at =
      let none : f.rest ≡ [] = placed watch bytes 0 f Between at in
      (f.messages, subst (λ (r : List ℕ). AreCut watch.spoken bytes f.messages r) none f.cut)

  -- the place behind no bytes is between messages
  at_none : (spoken : Spoken) (place : Place) → IsPlaceOf spoken [] place → place ≡ Between
  at_none spoken Between is = refl
  at_none spoken (Length high) (is, frames) = absurd (omega (arith, ap (λ (l : List ℕ). length l) is))
  at_none spoken (Inside size left) (inside, some, begun) = absurd (omega (arith, begun))

  -- behind whole messages the place is between them
  pub whole_between : AreWhole watch.spoken bytes → watch.place ≡ Between
  whole_between (messages, cut) =
      let same = same_cut watch.spoken f.messages messages bytes f.rest [] f.cut cut in
      at_none watch.spoken watch.place (subst (λ (r : List ℕ). IsPlaceOf watch.spoken r watch.place) same.1 f.place)

  -- what is kept of the last whole message is so of each way to cut the bytes
  pub stops_by : (messages : List (List ℕ)) (rest : List ℕ) → AreCut watch.spoken bytes messages rest
      → (watch.stop ≡ true) ↔ (last_of messages ≡ Some (watch.speech.stop ∷ []))
  stops_by messages rest cut =
      let same = same_cut watch.spoken f.messages messages bytes f.rest rest f.cut cut in
      subst (λ (ms : List (List ℕ)). (watch.stop ≡ true) ↔ (last_of ms ≡ Some (watch.speech.stop ∷ []))) same.0 f.stop

-- inside a message, some of its bytes are missing
pub inside_of : (watch : FrameWatch) (before : List ℕ) (f : HasFollowed watch before) (size left : ℕ) → watch.place ≡ Inside size left
    → IsInside watch.spoken f.rest size left × (0 < left)
inside_of watch before f size left at =
    let there = placed watch before 0 f (Inside size left) at in
    (there.0, there.1)

-- a watch over asks that has followed nothing
pub nothing_followed : (watch : FrameWatch) (size : ℕ) → watch.spoken ≡ Asks size → 0 < size → watch.place ≡ Between → watch.stop ≡ false
    → HasFollowed watch []
nothing_followed watch size asks some at stop =
    let bytes : HasBytes watch.spoken = subst HasBytes (sym asks) some in
    record {
      messages = [];
      rest = [];
      cut = record {
        joined = refl;
        sizes = λ k d within. absurd (omega (arith, within));
        none = none_whole watch.spoken [] Between bytes refl;
      };
      place = subst (λ (p : Place). IsPlaceOf watch.spoken [] p) (sym at) refl;
      stop = (λ t. absurd (false≢true (sym stop ∙ t)), λ e. grind arith);
    }

-- the first byte of a message is not the rest of one
pub frame_not_rest : Frame ≡ Rest → ⊥
frame_not_rest e = grind arith

pub ask_not_rest : Ask ≡ Rest → ⊥
ask_not_rest e = grind arith
