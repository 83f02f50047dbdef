-- What is told of a talk while a text is sent, piece after piece.
use Rattle.std.proofs.Common.{◌≡◌, ℕ, ◌+◌, List, [], ◌++◌, take, drop, Option, Some, None, refl, ap, ◌∙◌}
use Rattle.std.specs.Io.KnownBytes.{append_known}
use Rattle.wire.specs.Talks.{Talk, with_sent}
use Rattle.wire.proofs.Growing.{appends_none, appends_on}

-- nothing was added to what is known
known_none : (known : Option (List ℕ)) → known ≡ append_known known []
known_none (Some bytes) = ap Some (appends_none (Some bytes))
known_none None = refl

-- the next part of a text follows what is known of it
known_on : (known : Option (List ℕ)) (text : List ℕ) (done more : ℕ)
    → append_known (append_known known (take done text)) (take more (drop done text))
    ≡ append_known known (take (done + more) text)
known_on (Some bytes) text done more =
    ap Some (appends_on (Some bytes) (Some (bytes ++ take done text)) (Some (bytes ++ take done text ++ take more (drop done text))) text done more refl refl)
known_on None text done more = refl

-- nothing was sent
pub sent_none : (told : Option Talk) → told ≡ with_sent told []
sent_none (Some talk) = ap (λ sent. Some (record talk { sent = sent })) (known_none talk.sent)
sent_none None = refl

-- the next part of a text follows what was sent of it
pub sent_on : (told between after : Option Talk) (text : List ℕ) (done more : ℕ)
    → between ≡ with_sent told (take done text) → after ≡ with_sent between (take more (drop done text))
    → after ≡ with_sent told (take (done + more) text)
sent_on told between after text done more first second =
    second ∙ ap (λ talk. with_sent talk (take more (drop done text))) first ∙ both told
  where
    both : (talk : Option Talk)
        → with_sent (with_sent talk (take done text)) (take more (drop done text))
        ≡ with_sent talk (take (done + more) text)
    both (Some talk) =
        ap (λ sent. Some (record talk { sent = sent })) (known_on talk.sent text done more)
    both None = refl
