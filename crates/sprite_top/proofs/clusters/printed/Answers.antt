use Rattle.std.proofs.Common.{◌∙◌, sym, subst}
use Rattle.std.specs.List.{AllByRecursion}
use Rattle.call_journal.specs.Journal.{journal_of}
use Rattle.history_text.specs.Laws.{IsTogether}
use Rattle.history_text.proofs.TogetherLaws.{together_if_legal}
use Rattle.sprite_top.proofs.clusters.printed.Goals as goal

pub history-requires : goal.history-requires
history-requires c =
    subst (AllByRecursion IsTogether) (sym (c.as_slice.ensures ∙ c.in_ok-journal-in-History.ensures)) (together_if_legal c.args.closed.now.description (journal_of c.args.closed.now.trace) c.requires.judged.is_legal.is_legal)
