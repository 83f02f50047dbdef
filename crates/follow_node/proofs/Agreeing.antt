-- A follower of a leader's feed agrees with the leader's history.
use Rattle.std.proofs.Common.{◌≡◌, ◌⊎◌, inl, inr, ℕ, suc, ◌+◌, ◌^◌, ◌<◌, ◌≤◌, Option, Some, None, IfSome}
use Rattle.std.proofs.Common.{List, [], ◌∷◌, ◌++◌, All, length, option_map, take, drop, refl, sym, subst, ap, ap₂, ◌∙◌, length-append, arith}
use Rattle.std.proofs.Math.Seq.{drop-append_seam}
use Rattle.std.proofs.lemmas.List.{append-nil, append_assoc, drop-append-le, length-drop, length-take, take-append-le, take_at}
use Rattle.std.proofs.lemmas.List.Elements.{All-cons}
use Rattle.moves.specs.Maps.{Map}
use Rattle.cell_order.specs.declared.OrderKind.{OrderKind}
use Rattle.edit_log.specs.declared.edit.Edit.{Edit}
use Rattle.edit_log.specs.Edits.{map_after}
use Rattle.path_core.specs.declared.entry.Entry.{Entry}
use Rattle.path_core.specs.declared.entry.Entry.TheVariants.{Publish}
use Rattle.path_core.specs.Histories.{accepted_count, edits_of, published_prefix, IsLegal}
use Rattle.path_core.specs.Passes.{BeginsWith}
use Rattle.path_core.proofs.Bounds.{legal_histories_are_bounded}
use Rattle.path_core.proofs.Growing.{edits_go_on, prefix_goes_on}
use Rattle.path_core.proofs.LegalHistories.{none_is_legal, one_more_is_legal}
use Rattle.path_core.proofs.Passing.{begins_then, count_grows}
use Rattle.follow_proto.specs.declared.TheConstants.{MAX_SENT}
use Rattle.follow_proto.specs.Feeds.{IsMessage, IsSent, Message, frame_bytes, message_bytes, start_bytes}
use Rattle.follow_proto.specs.Feeds.Message.{Start, Edits}
use Rattle.feed_node.specs.Feeds.{Told, Answers, AnswersAll, GoOnFrom, MaySay, feed_bytes, told_bytes}
use Rattle.follow_node.specs.Following.{Followed, HaltsBoard, IsFrontOf, IsNext, accepts, after_edits, new_followed, with_edits}
use Rattle.follow_node.specs.Reading.{Spells}
use Rattle.follow_node.specs.Streams.{Following, Took, new_following}
use Rattle.follow_node.specs.Links.{IsOne}
use Rattle.follow_node.specs.Agreement.{Agrees, AgreesWhole, FollowersAgree, FollowersAgreeShort, IsLeading}
use Rattle.follow_node.proofs.LeadingEdits.{count_few, legal_again, next_edits}
use Rattle.follow_node.proofs.Spellings.{same_front_message}
use Rattle.follow_node.proofs.Submitted.{count_with, edits_accepted, published_still}
use Rattle.follow_node.proofs.WholeMessages.{edits_fit, heeded, one_message, part_held, start_short, took_cut}

-- ---- lists

-- a front of a list that is cut elsewhere: it ends before the cut, or goes on past it
abbrev IsCut : List ℕ → List ℕ → List ℕ → List ℕ → Type 0
IsCut bytes rest front back =
    ((more : List ℕ) × (front ≡ bytes ++ more) × (0 < length more)) ⊎ ((more : List ℕ) × (bytes ≡ front ++ more) × (more ++ rest ≡ back))

cut_behind : (x y : ℕ) (bytes rest front back : List ℕ) → x ≡ y → IsCut bytes rest front back → IsCut (x ∷ bytes) rest (y ∷ front) back
cut_behind x y bytes rest front back e (inl (more, is, some)) = inl (more, ap₂ (λ a l. a ∷ l) (sym e) is, some)
cut_behind x y bytes rest front back e (inr (more, is, then)) = inr (more, ap₂ (λ a l. a ∷ l) e is, then)

cut_at : (bytes rest front back : List ℕ) → bytes ++ rest ≡ front ++ back → IsCut bytes rest front back
cut_at [] rest [] back e = inr ([], refl, e)
cut_at [] rest (x ∷ front) back e = inl (x ∷ front, refl, omega arith)
cut_at (b ∷ bytes) rest [] back e = inr (b ∷ bytes, refl, e)
cut_at (b ∷ bytes) rest (x ∷ front) back e =
    let same : b ≡ x = cc in
    let tails : bytes ++ rest ≡ front ++ back = cc in
    cut_behind b x bytes rest front back same (cut_at bytes rest front back tails)

no_bytes : (bytes more : List ℕ) → bytes ++ more ≡ [] → bytes ≡ []
no_bytes [] more e = refl
no_bytes (byte ∷ bytes) more e = absurd (omega (arith, ap (λ (l : List ℕ). length l) e))

no_cons : (told : Told) (rest : List Told) → [] ≡ told ∷ rest → ⊥
no_cons told rest e = absurd (omega (arith, ap (λ (l : List Told). length l) e))

-- what a front of a list lacks of it
record Lacks (bytes front : List ℕ) : Type 0 where
  pub left : List ℕ
  pub is : front ≡ bytes ++ left

lacks_in : (bytes rest front back : List ℕ) → length bytes ≤ length front → IsCut bytes rest front back → Lacks bytes front
lacks_in bytes rest front back few (inl (more, is, some)) = record { left = more; is = is }
lacks_in bytes rest front back few (inr (more, is, then)) =
    let none : more ≡ [] = no_more more (omega (arith, few, ap (λ (l : List ℕ). length l) is, length-append front more)) in
    record { left = []; is = sym (is ∙ ap (λ l. front ++ l) none ∙ append-nil front) ∙ sym (append-nil bytes) }
  where
    no_more : (l : List ℕ) → length l ≡ 0 → l ≡ []
    no_more [] e = refl
    no_more (x ∷ l) e = absurd (omega (arith, e))

-- a front of a message whose frame spells edits
frame_front : (bytes left : List ℕ) (message : Message) (known : ℕ) (edits : List Edit) → message_bytes message ≡ bytes ++ left
    → Spells (drop 4 bytes) (Edits known edits) → drop 4 bytes ++ left ≡ frame_bytes message
frame_front bytes left message known edits is spelled =
    let long = ap (λ (l : List ℕ). length l) spelled.1 in
    let cut = length-drop 4 bytes in
    sym (drop-append-le 4 bytes left (omega (arith, long, cut))) ∙ ap (drop 4) (sym is)

count_after : (board : Followed) (edits : List Edit) → accepted_count (after_edits board edits).history ≡ accepted_count board.history + length edits
count_after board [] = omega arith
count_after board (edit ∷ edits) =
    let own : List Entry = board.history ++ accepts (edit ∷ edits) in
    ap (λ (l : List Edit). length l) (edits_go_on own (Publish 0 (accepted_count own) ∷ []) ∙ append-nil (edits_of own)) ∙ count_with board.history (edit ∷ edits)

all_mid : {X : Type 0} (P : X → Type 0) (front mid back : List X) → All P (front ++ (mid ++ back)) → All P mid
all_mid P [] [] back all = λ k d lt. absurd (omega (arith, lt))
all_mid P [] (x ∷ mid) back all = All-cons P x mid (all 0 x (omega arith)) (all_mid P [] mid back (λ k d lt. all (suc k) d (omega (arith, lt))))
all_mid P (x ∷ front) mid back all = all_mid P front mid back (λ k d lt. all (suc k) d (omega (arith, lt)))

-- ---- boards

module _ (start : Map) (order : OrderKind) (history : List Entry) where
  -- the board has the first of the history's edits, and these are behind them
  pub record IsFront (board : Followed) : Type 0 where
    pub start_is : board.start ≡ start
    pub order_is : board.order ≡ order
    pub legal : IsLegal start board.history
    pub tail : List Edit
    pub all : edits_of history ≡ edits_of board.history ++ tail

  front_agrees : (board : Followed) → IsFront board → Agrees start order history board
  front_agrees board p = record {
    start_is = p.start_is;
    order_is = p.order_is;
    legal = p.legal;
    fewer = omega (arith, ap length p.all, length-append (edits_of board.history) p.tail);
    first = sym (ap (take (accepted_count board.history)) p.all ∙ take_at (edits_of board.history) p.tail (accepted_count board.history) refl);
    versions = λ prefix version within is. record {
      map = is.map ∙ ap (map_after start) (sym (ap (take prefix) p.all ∙ take-append-le prefix (edits_of board.history) p.tail within));
      after = is.after;
      order = is.order;
      whole = is.whole;
    };
  }

  -- with some of those behind them
  more_front : (board : Followed) (edits later : List Edit) → (p : IsFront board) → p.tail ≡ edits ++ later
      → IsLegal start (board.history ++ accepts edits) → IsFront (with_edits board edits)
  more_front board edits later p next legal = record {
    start_is = p.start_is;
    order_is = p.order_is;
    legal = legal;
    tail = later;
    all = p.all ∙ ap (λ l. edits_of board.history ++ l) next ∙ sym (append_assoc (edits_of board.history) edits later)
        ∙ ap (λ l. l ++ later) (sym (edits_go_on board.history (accepts edits) ∙ ap (λ l. edits_of board.history ++ l) (edits_accepted edits)));
  }

  -- a version after all of them is published
  pub record IsWholeFront (board : Followed) : Type 0 where
    pub front : IsFront board
    pub published : published_prefix board.history ≡ accepted_count board.history

  whole_front : (board : Followed) (edits later : List Edit) → IsLegal start history → (p : IsWholeFront board) → p.front.tail ≡ edits ++ later
      → IsWholeFront (after_edits board edits)
  unfolding more_front
  whole_front board [] later lead p next = p
  whole_front board (edit ∷ edits) later lead p next =
      let sent = edit ∷ edits in
      let own : List Entry = board.history ++ accepts sent in
      let legal = legal_again start history board.history sent later lead p.front.legal (p.front.all ∙ ap (λ l. edits_of board.history ++ l) next) in
      let grown = more_front board sent later p.front next legal in
      let count : accepted_count own ≡ accepted_count board.history + length sent = count_with board.history sent in
      let before : published_prefix own ≡ published_prefix board.history = published_still board.history sent in
      let was = p.published in
      let goes = edits_go_on own (Publish 0 (accepted_count own) ∷ []) ∙ append-nil (edits_of own) in
      record {
        front = record {
          start_is = grown.start_is;
          order_is = grown.order_is;
          legal = one_more_is_legal start own (Publish 0 (accepted_count own)) legal (omega (arith, count, before, was), omega arith);
          tail = later;
          all = grown.all ∙ ap (λ l. l ++ later) (sym goes);
        };
        published = prefix_goes_on own (Publish 0 (accepted_count own)) ∙ ap length (sym goes);
      }

  -- ---- a follower on its way

  -- its board is such a front, and the messages that are to come go on from it
  pub record Stands (at : Following) (more : List ℕ) : Type 0 where
    pub board : Followed
    pub board_is : at.board ≡ Some board
    pub front : IsWholeFront board
    pub unfaulted : at.fault ≡ None
    pub order_too : at.order ≡ order
    pub point : List Entry
    pub tolds : List Told
    pub answers : AnswersAll point tolds history
    pub goes_on : GoOnFrom (accepted_count board.history) tolds
    pub left : at.held ++ more ≡ told_bytes tolds
    pub part : (told : Told) (rest : List Told) → tolds ≡ told ∷ rest → length at.held < length (message_bytes told.message)

  module _ (lead : IsLeading start history) where
    low_count : (count : ℕ) → count ≤ accepted_count history → count < 2 ^ 32
    low_count count within =
        let few = (legal_histories_are_bounded start history lead.legal).entries in
        let less = count_few history in
        omega (arith, few, less, within)

    answers_begin : (before : List Entry) (tolds : List Told) → AnswersAll before tolds history → BeginsWith history before
    answers_begin before [] p = p
    answers_begin before (told ∷ tolds) (after, a, rest) =
        begins_then before after history (begins_then before a.point after a.goes a.on) (answers_begin after tolds rest)

    -- the message that is next
    record IsNextMessage (board : Followed) (front : IsWholeFront board) (edits : List Edit) : Type 0 where
      pub later : List Edit
      pub next : front.front.tail ≡ edits ++ later
      pub is : IsMessage (Edits (accepted_count board.history) edits)
      pub may : IsNext (Some board) (Edits (accepted_count board.history) edits)

    next_message : (board : Followed) (front : IsWholeFront board) (edits : List Edit) (told : Told) (before after : List Entry) (tolds : List Told)
        → told.message ≡ Edits (accepted_count board.history) edits → Answers before told after → AnswersAll after tolds history
        → IsNextMessage board front edits
    next_message board front edits told before after tolds is a rest =
        let count = accepted_count board.history in
        let says = subst (MaySay a.point after told.known) is a.says in
        let known : count ≡ told.known = says.1 in
        let within : count ≤ accepted_count after = omega (arith, known, says.0, count_grows a.point after a.on) in
        let are : edits ≡ take MAX_SENT (drop count (edits_of after)) = says.2 ∙ ap (λ n. take MAX_SENT (drop n (edits_of after))) (sym known) in
        let these = next_edits history after count edits (answers_begin after tolds rest) within are in
        let next : front.front.tail ≡ edits ++ these.tail =
        sym (ap (drop count) front.front.all ∙ drop-append_seam (edits_of board.history) front.front.tail) ∙ these.is in
        let all : edits_of history ≡ edits_of board.history ++ (edits ++ these.tail) = front.front.all ∙ ap (λ l. edits_of board.history ++ l) next in
        let legal = legal_again start history board.history edits these.tail lead.legal front.front.legal all in
        let fewer = (front_agrees board front.front).fewer in
        record {
          later = these.tail;
          next = next;
          is = (
            low_count count fewer,
            record {
              few = omega (arith, ap length are, length-take MAX_SENT (drop count (edits_of after)));
              each = all_mid IsSent (edits_of board.history) edits these.tail (subst (All IsSent) all lead.edits);
            },
          );
          may = (refl, subst (λ m. IsLegal m (board.history ++ accepts edits)) (sym front.front.start_is) legal);
        }

    -- ---- message by message

    goes : (at after : Following) (board : Followed) → at.board ≡ Some board → IsWholeFront board → at.fault ≡ None → at.order ≡ order → at.held ≡ []
        → (before : List Entry) (tolds : List Told) → AnswersAll before tolds history → GoOnFrom (accepted_count board.history) tolds
        → (bytes more : List ℕ) → bytes ++ more ≡ told_bytes tolds → Took at bytes after → Stands after more
    goes at after board is front unfaulted ordered even before [] answers goes_on bytes more whole p =
        let none : bytes ≡ [] = no_bytes bytes more whole in
        let same : after ≡ at = subst (λ l. Took at l after) none p in
        subst (λ f. Stands f more) (sym same) (record {
          board = board;
          board_is = is;
          front = front;
          unfaulted = unfaulted;
          order_too = ordered;
          point = before;
          tolds = [];
          answers = answers;
          goes_on = goes_on;
          left = ap (λ l. l ++ more) (even ∙ sym none) ∙ whole;
          part = λ told rest e. absurd (no_cons told rest e);
        })
    goes at after board is front unfaulted ordered even before (told ∷ tolds) (point, a, rest) (edits, message_is, later) bytes more whole p =
        let next = next_message board front edits told before point tolds message_is a rest in
        let message : Message = Edits (accepted_count board.history) edits in
        let short = edits_fit (accepted_count board.history) edits next.is.1 in
        let one = one_message message short in
        let bytes_are : message_bytes told.message ≡ message_bytes message = ap message_bytes message_is in
        elim (cut_at bytes more (message_bytes message) (told_bytes tolds) (whole ∙ ap (λ l. l ++ told_bytes tolds) bytes_are)) [
          | inl (left, cut, some) ↦
              (let lent : (at.held ++ bytes) ++ left ≡ message_bytes message = ap (λ l. (l ++ bytes) ++ left) even ∙ sym cut in
              let held : after ≡ record at { held = at.held ++ bytes } = part_held at after bytes left unfaulted (subst IsOne (sym lent) one) some p in
              let all : at.held ++ bytes ≡ bytes = ap (λ l. l ++ bytes) even in
              subst (λ f. Stands f more) (sym held) (record {
                board = board;
                board_is = is;
                front = front;
                unfaulted = unfaulted;
                order_too = ordered;
                point = before;
                tolds = told ∷ tolds;
                answers = (point, a, rest);
                goes_on = (edits, message_is, later);
                left = ap (λ l. l ++ more) all ∙ whole;
                part = λ first others e.
                    (let same : told ≡ first = cc in
                    let long = ap (λ (t : Told). length (message_bytes t.message)) same in
                    omega (
                      arith,
                      long,
                      ap (λ (l : List ℕ). length l) bytes_are,
                      ap (λ (l : List ℕ). length l) cut,
                      length-append bytes left,
                      some,
                      ap (λ (l : List ℕ). length l) all,
                    ));
              }))
          | inr (past, cut, then) ↦
              (let two = took_cut at after (message_bytes message) past (subst (λ l. Took at l after) cut p) in
              let may : IsNext at.board message = subst (λ o. IsNext o message) (sym is) next.may in
              let heard = heeded at two.0 message even unfaulted next.is short may two.1 in
              let board_then : two.0.board ≡ Some (after_edits board edits) =
              heard.board_is ∙ ap (option_map (λ b. after_edits b edits)) is in
              let count : accepted_count (after_edits board edits).history ≡ accepted_count board.history + length edits = count_after board edits in
              goes two.0 after (after_edits board edits) board_then (whole_front board edits next.later lead.legal front next.next) heard.fault_is
              (heard.order_is ∙ ordered) heard.held_is point tolds rest (subst (λ n. GoOnFrom n tolds) (sym count) later) past more then two.2)
        ]

    -- from the first byte on: the map has not come, or the board stands
    begins : (tolds : List Told) → AnswersAll [] tolds history → GoOnFrom 0 tolds → (bytes more : List ℕ) → bytes ++ more ≡ feed_bytes start tolds
        → (after : Following) → Took (new_following order) bytes after → ((after.board ≡ None) × (after.fault ≡ None)) ⊎ Stands after more
    begins tolds answers goes_on bytes more whole after p =
        let one = one_message (Start start) (start_short start lead.map) in
        elim (cut_at bytes more (start_bytes start) (told_bytes tolds) whole) [
          | inl (left, cut, some) ↦
              (let held = part_held (new_following order) after bytes left refl (subst IsOne cut one) some p in
              inl (ap (λ (f : Following). f.board) held, ap (λ (f : Following). f.fault) held))
          | inr (past, cut, then) ↦
              (let two = took_cut (new_following order) after (start_bytes start) past (subst (λ l. Took (new_following order) l after) cut p) in
              let heard = heeded (new_following order) two.0 (Start start) refl refl lead.map (start_short start lead.map) tt two.1 in
              let front : IsWholeFront (new_followed order start) = record {
                front = record { start_is = refl; order_is = refl; legal = none_is_legal start; tail = edits_of history; all = refl };
                published = refl;
              } in
              inr (goes two.0 after (new_followed order start) heard.board_is front heard.fault_is heard.order_is heard.held_is [] tolds answers goes_on past more then two.2))
        ]

    stands_whole : (after : Following) (more : List ℕ) → ((after.board ≡ None) × (after.fault ≡ None)) ⊎ Stands after more
        → (after.fault ≡ None) × IfSome after.board (AgreesWhole start order history)
    stands_whole after more (inl (none, unfaulted)) = (unfaulted, subst (λ o. IfSome o (AgreesWhole start order history)) (sym none) tt)
    stands_whole after more (inr s) = (
      s.unfaulted,
      subst (λ o. IfSome o (AgreesWhole start order history)) (sym s.board_is)
          (record { agrees = front_agrees s.board s.front.front; published = s.front.published }),
    )

    -- ---- where memory ran out

    -- the edits of a message of which some were accepted are those that are next
    module _ (mid : Following) (byte : ℕ) (rest : List ℕ) (s : Stands mid (byte ∷ rest)) where
      some_next : (taken : List Edit) → IsFrontOf s.board (drop 4 (mid.held ++ byte ∷ [])) taken → (tolds : List Told) → s.tolds ≡ tolds
          → Agrees start order history (with_edits s.board taken)
      some_next taken q [] e =
          absurd (omega (arith, ap (λ (l : List ℕ). length l) (s.left ∙ ap told_bytes e), length-append mid.held (byte ∷ rest)))
      some_next taken q (told ∷ tolds) e =
          let answers = subst (λ l. AnswersAll s.point l history) e s.answers in
          let others = subst (GoOnFrom (accepted_count s.board.history)) e s.goes_on in
          let edits : List Edit = others.0 in
          let next = next_message s.board s.front edits told s.point answers.0 tolds others.1 answers.1 answers.2 in
          let message : Message = Edits (accepted_count s.board.history) edits in
          let long = s.part told tolds e in
          let bytes_are : message_bytes told.message ≡ message_bytes message = ap message_bytes others.1 in
          let whole : (mid.held ++ byte ∷ []) ++ rest ≡ message_bytes message ++ told_bytes tolds =
          append_assoc mid.held (byte ∷ []) rest ∙ s.left ∙ ap told_bytes e ∙ ap (λ l. l ++ told_bytes tolds) bytes_are in
          let lacks = lacks_in (mid.held ++ byte ∷ []) rest (message_bytes message) (told_bytes tolds)
          (omega (arith, long, ap (λ (l : List ℕ). length l) bytes_are, length-append mid.held (byte ∷ [])))
          (cut_at (mid.held ++ byte ∷ []) rest (message_bytes message) (told_bytes tolds) whole) in
          let same = frame_front (mid.held ++ byte ∷ []) lacks.left message (accepted_count s.board.history) (taken ++ q.rest) lacks.is q.spelled in
          let sent : edits ≡ taken ++ q.rest = sym (same_front_message (drop 4 (mid.held ++ byte ∷ [])) lacks.left (accepted_count s.board.history)
          (accepted_count s.board.history) (taken ++ q.rest) edits q.spelled (next.is, same)) in
          front_agrees (with_edits s.board taken)
          (more_front s.board taken (q.rest ++ next.later) s.front.front
          (next.next ∙ ap (λ l. l ++ next.later) sent ∙ append_assoc taken q.rest next.later)
          (subst (λ m. IsLegal m (s.board.history ++ accepts taken)) s.front.front.start_is q.can))

      halts_so : (after : Option Followed) → HaltsBoard (Some s.board) (drop 4 (mid.held ++ byte ∷ [])) after → IfSome after (Agrees start order history)
      halts_so after (inl same) = subst (λ o. IfSome o (Agrees start order history)) (sym same) (front_agrees s.board s.front.front)
      halts_so after (inr (taken, q, same)) =
          subst (λ o. IfSome o (Agrees start order history)) (sym same) (some_next taken q s.tolds refl)

    halts : (mid after : Following) (byte : ℕ) (rest : List ℕ) → ((mid.board ≡ None) × (mid.fault ≡ None)) ⊎ Stands mid (byte ∷ rest)
        → HaltsBoard mid.board (drop 4 (mid.held ++ byte ∷ [])) after.board → IfSome after.board (Agrees start order history)
    halts mid after byte rest (inl (none, unfaulted)) h =
        let same : after.board ≡ None = subst (λ o. HaltsBoard o (drop 4 (mid.held ++ byte ∷ [])) after.board) none h in
        subst (λ o. IfSome o (Agrees start order history)) (sym same) tt
    halts mid after byte rest (inr s) h =
        halts_so mid byte rest s after.board (subst (λ o. HaltsBoard o (drop 4 (mid.held ++ byte ∷ [])) after.board) s.board_is h)

pub followers_agree : FollowersAgree
followers_agree order start history bytes after lead feed took =
    stands_whole start order history lead after feed.rest
    (begins start order history lead feed.tolds feed.answers feed.goes_on bytes feed.rest (sym feed.whole) after took)

pub followers_agree_short : FollowersAgreeShort
followers_agree_short order start history bytes after lead feed stops =
    let cut : stops.front ++ (stops.byte ∷ (stops.rest ++ feed.rest)) ≡ feed_bytes start feed.tolds =
    sym (append_assoc stops.front (stops.byte ∷ stops.rest) feed.rest) ∙ ap (λ l. l ++ feed.rest) (sym stops.bytes_are) ∙ sym feed.whole in (
      stops.short.fault_is,
      halts start order history lead stops.mid after stops.byte (stops.rest ++ feed.rest)
          (begins start order history lead feed.tolds feed.answers feed.goes_on stops.front (stops.byte ∷ (stops.rest ++ feed.rest)) cut stops.mid stops.took)
          stops.short.board,
    )
