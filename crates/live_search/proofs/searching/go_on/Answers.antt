use Rattle.std.proofs.Common.{◌≡◌, length, refl, sym, subst, arith}
use Rattle.versions.specs.Databases.{Versioned}
use Rattle.path_image.specs.Images.{IsImageOf}
use Rattle.live_search.specs.declared.seeking.Seek.{Seek}
use Rattle.path_image.specs.Reading.{size_at, start_in}
use Rattle.live_search.specs.Sound.{IsAbout, IsBegun, IsSound}
use Rattle.live_search.proofs.Turning.{about_ends, answered_err, answered_more, answered_ok, ends_apart, few_words, sought_of}
use Rattle.live_search.proofs.searching.go_on.Goals as goal

pub returns-then-from-to-clause-found : goal.returns-then-from-to-clause-found
returns-then-from-to-clause-found c = λ version image. (
  ends_apart version c.args.live.now c.args.start c.args.goal c.in-Ok.homes.0 c.in-Ok.homes.1 image c.in-Ok.ensures.from c.in-Ok.ensures.to c.if-from-to.true,
  refl,
)

pub returns-then-scratch-words-clause-fault : goal.returns-then-scratch-words-clause-fault
returns-then-scratch-words-clause-fault c = λ version image.
    let few = c.if-scratch-words.true in (
      few_words version c.args.live.now c.args.start c.in-Ok.homes.0 c.in-Ok.homes.1 c.size.result (length c.args.scratch.now) image c.in-Ok.ensures.from c.if-from-to.false
          (subst (λ w. c.size.result ≡ size_at w (start_in w c.in-Ok.homes.1.label)) c.image.ensures.image c.size.ensures.size) (omega arith),
      refl,
    )

pub returns-clause-found : goal.returns-clause-found
returns-clause-found c =
    let seek : Seek = record { first = c.in-Ok.homes.0.place; goal = c.in-Ok.homes.1; size = c.size.result } in
    let about : (version : Versioned) → IsImageOf c.args.live.now.words version → IsAbout version c.args.live.now seek c.args.start c.args.goal =
    λ version image. about_ends version c.args.live.now seek c.args.start c.args.goal c.in-Ok.homes.0 c.in-Ok.homes.1 image c.in-Ok.ensures.from c.in-Ok.ensures.to
    c.in-Ok.ensures.ends c.if-from-to.false refl refl in
    let sought =
    sought_of c.args.live.now c.in-Ok.homes.0 c.in-Ok.homes.1 c.size.result c.in-Ok.ensures.start c.in-Ok.ensures.goal c.if-from-to.false
    (subst (λ w. c.size.result ≡ size_at w (start_in w c.in-Ok.homes.1.label)) c.image.ensures.image c.size.ensures.size) c.size.ensures.limit in
    let begun : (version : Versioned) → IsImageOf c.args.live.now.words version
    → IsSound version c.args.live.now seek c.args.start c.args.goal c.split_at_mut-state.result.0.now × IsBegun seek c.split_at_mut-state.result.0.now =
    λ version image.
    (let waits = c.requires version seek sought (about version image) in (
      subst (IsSound version c.args.live.now seek c.args.start c.args.goal) (sym c.split_at_mut-state.ensures.front) waits.0,
      subst (IsBegun seek) (sym c.split_at_mut-state.ensures.front) waits.1,
    )) in
    answered_ok c.args.live.now seek c.args.start c.args.goal c.split_at_mut-state.result.0.now c.answer.new.state c.args.room.now c.answer.new.room about begun c.answer.result c.answer.ensures.answers

pub returns-clause-waits : goal.returns-clause-waits
returns-clause-waits c = λ more.
    let seek : Seek = record { first = c.in-Ok.homes.0.place; goal = c.in-Ok.homes.1; size = c.size.result } in
    let about : (version : Versioned) → IsImageOf c.args.live.now.words version → IsAbout version c.args.live.now seek c.args.start c.args.goal =
    λ version image. about_ends version c.args.live.now seek c.args.start c.args.goal c.in-Ok.homes.0 c.in-Ok.homes.1 image c.in-Ok.ensures.from c.in-Ok.ensures.to
    c.in-Ok.ensures.ends c.if-from-to.false refl refl in
    let sought =
    sought_of c.args.live.now c.in-Ok.homes.0 c.in-Ok.homes.1 c.size.result c.in-Ok.ensures.start c.in-Ok.ensures.goal c.if-from-to.false
    (subst (λ w. c.size.result ≡ size_at w (start_in w c.in-Ok.homes.1.label)) c.image.ensures.image c.size.ensures.size) c.size.ensures.limit in
    let begun : (version : Versioned) → IsImageOf c.args.live.now.words version
    → IsSound version c.args.live.now seek c.args.start c.args.goal c.split_at_mut-state.result.0.now × IsBegun seek c.split_at_mut-state.result.0.now =
    λ version image.
    (let waits = c.requires version seek sought (about version image) in (
      subst (IsSound version c.args.live.now seek c.args.start c.args.goal) (sym c.split_at_mut-state.ensures.front) waits.0,
      subst (IsBegun seek) (sym c.split_at_mut-state.ensures.front) waits.1,
    )) in
    answered_more c.args.live.now seek c.args.start c.args.goal c.split_at_mut-state.result.0.now c.answer.new.state c.args.room.now c.answer.new.room about begun c.answer.new.queue c.answer.result c.answer.ensures.answers sought c.answer.ensures.state more

pub returns-clause-fault : goal.returns-clause-fault
returns-clause-fault c =
    let seek : Seek = record { first = c.in-Ok.homes.0.place; goal = c.in-Ok.homes.1; size = c.size.result } in
    let about : (version : Versioned) → IsImageOf c.args.live.now.words version → IsAbout version c.args.live.now seek c.args.start c.args.goal =
    λ version image. about_ends version c.args.live.now seek c.args.start c.args.goal c.in-Ok.homes.0 c.in-Ok.homes.1 image c.in-Ok.ensures.from c.in-Ok.ensures.to
    c.in-Ok.ensures.ends c.if-from-to.false refl refl in
    let sought =
    sought_of c.args.live.now c.in-Ok.homes.0 c.in-Ok.homes.1 c.size.result c.in-Ok.ensures.start c.in-Ok.ensures.goal c.if-from-to.false
    (subst (λ w. c.size.result ≡ size_at w (start_in w c.in-Ok.homes.1.label)) c.image.ensures.image c.size.ensures.size) c.size.ensures.limit in
    let begun : (version : Versioned) → IsImageOf c.args.live.now.words version
    → IsSound version c.args.live.now seek c.args.start c.args.goal c.split_at_mut-state.result.0.now × IsBegun seek c.split_at_mut-state.result.0.now =
    λ version image.
    (let waits = c.requires version seek sought (about version image) in (
      subst (IsSound version c.args.live.now seek c.args.start c.args.goal) (sym c.split_at_mut-state.ensures.front) waits.0,
      subst (IsBegun seek) (sym c.split_at_mut-state.ensures.front) waits.1,
    )) in
    answered_err c.args.live.now seek c.args.start c.args.goal c.split_at_mut-state.result.0.now c.answer.new.state c.args.room.now c.answer.new.room about begun c.args.scratch.now c.answer.result c.answer.ensures.answers
