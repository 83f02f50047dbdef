use Rattle.std.proofs.Common.{◌≡◌, ◌<◌, [], ◌∷◌, ◌++◌, length, map, set, sym, ap, ◌∙◌, arith}
use Rattle.std.proofs.lemmas.List.{get_or-map, map-set}
use Rattle.lane_rows.specs.Packed.{words_in}
use Rattle.lane_rows.proofs.lane_words.LaneWords.push.Goals as goal

pub returns : goal.returns
returns c =
    let lists = c.self.inside.lists.items in
    let old = c.index_mut.result.now in
    let within : c.args.lane < length lists = let lanes = c.self.invariant in omega arith in
    let before : words_in (map (λ list. list.items) lists) c.args.lane ≡ old.items =
    get_or-map (λ list. list.items) lists c.args.lane old [] within ∙ ap (λ list. list.items) (sym c.index_mut.ensures.value) in
    rw (← c.self.view_is)
    (map-set (λ list. list.items) lists c.args.lane c.push.new.self
    ∙ ap (set (map (λ list. list.items) lists) c.args.lane) (c.in_ok-push.ensures.items ∙ ap (λ words. words ++ c.args.word ∷ []) (sym before)))
