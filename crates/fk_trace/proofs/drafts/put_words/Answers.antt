use Rattle.std.proofs.Common.{◌∙◌, take_all}
use Rattle.fk_trace.proofs.drafts.put_words.Goals as goal

pub returns : goal.returns
returns c = c.append.ensures ∙ take_all 64 _ c.requires.few
