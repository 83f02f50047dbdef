use Rattle.std.proofs.Common.{OnOk, string_bytes, ap, subst, ◌∙◌}
use Rattle.std.proofs.lemmas.Result.{on_ok_weaker}
use Rattle.path_replay.specs.Inside.{SaysAnswer}
use Rattle.path_replay.proofs.Telling.{adds_answer}
use Rattle.path_replay.proofs.pass.Pass.query.Goals as goal

pub returns : goal.returns
returns c =
    on_ok_weaker c.push_answer.result
    (adds_answer c.args.self.now.version c.args.start c.args.goal c.prefix-prefix.result (string_bytes c.args.text.now) (string_bytes c.write.new.self) (string_bytes c.push_answer.new.text)
    (c.prefix-prefix.ensures ∙ ap (λ v. v.prefix) c.deref.ensures ∙ ap (λ (h : _). h.version.prefix) c.self.view_is) c.in_ok-write.ensures.bytes)
    (subst (λ v. OnOk c.push_answer.result (SaysAnswer v c.args.start c.args.goal (string_bytes c.write.new.self) (string_bytes c.push_answer.new.text)))
    (c.deref-2.ensures ∙ ap (λ (h : _). h.version) c.self.view_is) c.push_answer.ensures)
