-- What is taken and sent over a link, one thing after another.
use Rattle.std.proofs.Common.{◌≡◌, ℕ, ◌+◌, List, [], ◌++◌, length, take, drop, Option, Some, None, refl, sym, subst, ap, ◌∙◌, length-append, arith, rules}
use Rattle.std.specs.Io.KnownBytes.{append_known}
use Rattle.std.proofs.Math.Seq.{take-append-add}
use Rattle.std.proofs.lemmas.List.{append_assoc, drop-drop, take-append-le}
use Rattle.wire.specs.Talks.{SendsPrefix, Talk, with_sent, with_taken}
use Rattle.wire.proofs.Sending.{sent_none}
use Rattle.path_client.specs.Taking.{Takes}
use Rattle.path_client.specs.Asking.{IsFirstPart, Passes}

known_twice : (known : Option (List ℕ)) (one other : List ℕ) → append_known (append_known known one) other ≡ append_known known (one ++ other)
known_twice (Some bytes) one other = ap Some (append_assoc bytes one other)
known_twice None one other = refl

-- a text was sent behind another
pub sent_both : (told : Option Talk) (one other : List ℕ) → with_sent (with_sent told one) other ≡ with_sent told (one ++ other)
sent_both (Some talk) one other = ap (λ (sent : Option (List ℕ)). Some (record talk { sent = sent })) (known_twice talk.sent one other)
sent_both None one other = refl

-- a first part of a text was sent behind another text
pub prefix_behind : (told mid after : Option Talk) (one other : List ℕ) → mid ≡ with_sent told one → SendsPrefix mid after other
    → SendsPrefix told after (one ++ other)
prefix_behind told mid after one other first (count, less, e) = (
  length one + count,
  omega (arith, less, length-append one other),
  e ∙ ap (λ t. with_sent t (take count other)) first ∙ sent_both told one (take count other) ∙ ap (with_sent told) (sym (take-append-add one other count)),
)

-- a first part of a text is one of a longer text
pub prefix_longer : (told after : Option Talk) (text more : List ℕ) → SendsPrefix told after text → SendsPrefix told after (text ++ more)
prefix_longer told after text more (count, less, e) = (
  count,
  omega (arith, less, length-append text more),
  e ∙ ap (with_sent told) (sym (take-append-le count text more (omega (arith, less)))),
)

-- ---- taken and sent

pub takes_none : (told : Option Talk) → Takes told told []
takes_none (Some talk) = record { front = refl; moved = refl }
takes_none None = record { front = search rules; moved = refl }

pub passes_none : (told : Option Talk) → Passes told told [] []
passes_none (Some talk) = record { front = refl; moved = sent_none (Some talk) }
passes_none None = record { front = search rules; moved = refl }

-- more was taken
pub passes_taken : (before mid after : Option Talk) (taken sent more : List ℕ) → Passes before mid taken sent → Takes mid after more
    → Passes before after (taken ++ more) sent
passes_taken None mid after taken sent more p q =
    let then : Takes None after more = subst (λ told. Takes told after more) p.moved q in
    record { front = search rules; moved = then.moved }
passes_taken (Some talk) mid after taken sent more p q =
    let then = subst (λ told. Takes told after more) p.moved q in
    let seam : drop (length more) (drop (length taken) talk.left) ≡ drop (length (taken ++ more)) talk.left =
    drop-drop (length more) (length taken) talk.left ∙ ap (λ n. drop n talk.left) (sym (length-append taken more)) in
    record {
      front = p.front ∙ ap (λ l. taken ++ l) then.front ∙ sym (append_assoc taken more (drop (length more) (drop (length taken) talk.left)))
          ∙ ap (λ l. (taken ++ more) ++ l) seam;
      moved = then.moved ∙ ap (λ (left : List ℕ). with_sent (Some (record talk { left = left })) sent) seam;
    }

-- more was sent
pub passes_sent : (before mid after : Option Talk) (taken sent more : List ℕ) → Passes before mid taken sent → after ≡ with_sent mid more
    → Passes before after taken (sent ++ more)
passes_sent before mid after taken sent more p e = record {
  front = p.front;
  moved = e ∙ ap (λ told. with_sent told more) p.moved ∙ sent_both (with_taken before (length taken)) sent more;
}

-- what was taken and sent first, and then
pub passes_both : (before mid after : Option Talk) (taken sent more then : List ℕ) → Passes before mid taken sent → Passes mid after more then
    → Passes before after (taken ++ more) (sent ++ then)
passes_both before mid after taken sent more then p q =
    passes_sent before (with_taken mid (length more)) after (taken ++ more) sent then
    (passes_taken before mid (with_taken mid (length more)) taken sent more p (record { front = q.front; moved = refl })) q.moved

-- only a text was sent
pub passes_only : (before after : Option Talk) (sent : List ℕ) → after ≡ with_sent before sent → Passes before after [] sent
passes_only before after sent e = passes_sent before before after [] [] sent (passes_none before) e

-- only these bytes were taken
pub passes_alone : (before after : Option Talk) (taken : List ℕ) → Takes before after taken → Passes before after taken []
passes_alone before after taken p = passes_taken before before after [] [] taken (passes_none before) p

-- less than the whole of a text was sent
pub passes_part : (before mid after : Option Talk) (taken sent text : List ℕ) → Passes before mid taken sent → (p : SendsPrefix mid after text)
    → Passes before after taken (sent ++ take p.0 text)
passes_part before mid after taken sent text p (count, less, e) = passes_sent before mid after taken sent (take count text) p e

-- a first part of a text behind a whole one
pub part_behind : (one other part : List ℕ) → IsFirstPart part other → IsFirstPart (one ++ part) (one ++ other)
part_behind one other part (count, less, is) = (
  length one + count,
  omega (arith, less, length-append one other),
  ap (λ l. one ++ l) is ∙ sym (take-append-add one other count),
)
