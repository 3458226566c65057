use Rattle.std.proofs.Common.{◌≡◌, ℕ, true, List, ap, ◌∙◌, sym, subst}
use Rattle.file_views.specs.declared.view.View.{View}
use Rattle.file_views.specs.Views.{new_view}
use Rattle.file_views.specs.Entries.{bytes_after_all, are_right}
use Rattle.file_views.specs.LayerLaw.{all_happened, happened}
use Rattle.file_views.specs.BytesLaw.{entered_by, bytes_happened}
use Rattle.file_views.proofs.EnterLaws.{StandsAt, stood_at, enters_by, stands_after, always_by, stays_by, new_stands}
use Rattle.file_views.proofs.laws.bytes_stay.Goals as goal

pub returns : goal.returns
returns c = record {
  stands = λ z count bytes happenings low high p. stood_at z _ _ p (stands_after z happenings bytes (new_view count bytes) p (new_stands z count bytes low high));
  changes = λ z count bytes happenings one low high p.
      let v : View = all_happened z (new_view count bytes) happenings in
      let had : List ℕ = bytes_happened z (new_view count bytes) bytes happenings in
      let a : StandsAt z had v = stands_after z happenings bytes (new_view count bytes) p (new_stands z count bytes low high) in
      stood_at z (bytes_after_all z had (entered_by z v one)) (happened z v one) p (enters_by z had v one p a).1 ∙ ap (λ xs. bytes_after_all z xs (entered_by z v one)) (sym (stood_at z had v p a));
  right = λ z count bytes happenings one low high p.
      let v : View = all_happened z (new_view count bytes) happenings in
      let had : List ℕ = bytes_happened z (new_view count bytes) bytes happenings in
      let a : StandsAt z had v = stands_after z happenings bytes (new_view count bytes) p (new_stands z count bytes low high) in
      subst (λ xs. are_right z xs (entered_by z v one) ≡ true) (sym (stood_at z had v p a)) (enters_by z had v one p a).0;
  always = λ z count bytes happenings low high p. always_by z happenings bytes (new_view count bytes) p (new_stands z count bytes low high);
  steps = λ z count bytes steps low high p. stays_by z steps bytes (new_view count bytes) p (new_stands z count bytes low high);
}
