use Rattle.file_views.specs.Views.{new_view}
use Rattle.file_views.specs.LayerLaw.{all_happened}
use Rattle.file_views.proofs.LayerLaws.{layers_stay, limits_stay, contents_together}
use Rattle.file_views.proofs.PresentLaws.{present_by, good_contents_by, served_by}
use Rattle.file_views.proofs.laws.layers_stay.Goals as goal

pub returns : goal.returns
returns c = record {
  layers = layers_stay;
  limits = limits_stay;
  contents = contents_together;
  present = λ z count bytes happenings low high p f. present_by z (all_happened z (new_view count bytes) happenings) (layers_stay z count bytes happenings low high) p f;
  good = λ z count bytes happenings low high p. good_contents_by z (all_happened z (new_view count bytes) happenings) (layers_stay z count bytes happenings low high) p (contents_together z count bytes happenings low high p);
  served = λ z count bytes happenings low high p q one m r pid number stream way e. served_by z (all_happened z (new_view count bytes) happenings) (layers_stay z count bytes happenings low high) p (contents_together z count bytes happenings low high p) q one m r pid number stream way e;
}
