use Rattle.std.proofs.Common.{◌≡◌, true, ◌∙◌, sym, subst}
use Rattle.file_views.specs.declared.view.View.{View}
use Rattle.file_views.specs.Views.{new_view}
use Rattle.file_views.specs.Coherent.{coherent}
use Rattle.file_views.specs.SoundContents.{StandsFor}
use Rattle.file_views.specs.LayerLaw.{all_happened, Layers}
use Rattle.file_views.proofs.LayerLaws.{layers_stay, contents_together, part_7_by}
use Rattle.file_views.proofs.PresentLaws.{present_by}
use Rattle.file_views.proofs.SettledLaws.{stands_is, coherent_by}
use Rattle.file_views.proofs.laws.coherence_stays.Goals as goal

pub returns : goal.returns
returns c = record {
  settles = λ z count bytes happenings low high p.
      let v : View = all_happened z (new_view count bytes) happenings in
      let l : Layers z v = layers_stay z count bytes happenings low high in
      let f : StandsFor z v = contents_together z count bytes happenings low high p in
      stands_is z v l p f ∙ sym (present_by z v l p f);
  whole = λ z count bytes happenings low high p.
      let v : View = all_happened z (new_view count bytes) happenings in
      let l : Layers z v = layers_stay z count bytes happenings low high in
      let f : StandsFor z v = contents_together z count bytes happenings low high p in
      subst (λ xs. coherent z v xs ≡ true) (sym (present_by z v l p f)) (coherent_by z v l (part_7_by z v l) p f);
}
