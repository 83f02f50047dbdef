use Rattle.wire.proofs.NamedFiles.{content_told, content_untold}
use Rattle.wire.proofs.mem_files.MemFiles.new.Goals as goal

pub returns-clause-told : goal.returns-clause-told
returns-clause-told c = content_told c.args.files.items c.requires

pub returns-clause-untold : goal.returns-clause-untold
returns-clause-untold c = content_untold c.args.files.items
