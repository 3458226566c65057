use Rattle.history_text.proofs.TogetherLaws.{together_if_legal}
use Rattle.history_text.proofs.laws.legal_is_together.Goals as goal

pub returns : goal.returns
returns c = together_if_legal
