use Rattle.file_views.specs.Views.{new_view}
use Rattle.file_views.specs.LayerLaw.{all_happened}
use Rattle.file_views.proofs.LayerLaws.{layers_stay, part_7_by}
use Rattle.file_views.proofs.CoherentLaws.{part_3_by, part_4_by, part_6_by}
use Rattle.file_views.proofs.TrustLaws.{part_2_by}
use Rattle.file_views.proofs.WayLaws.{part_5_by}
use Rattle.file_views.proofs.laws.parts_stay.Goals as goal

pub returns : goal.returns
returns c = record {
  alone = λ z count bytes happenings low high. part_3_by z (all_happened z (new_view count bytes) happenings) (layers_stay z count bytes happenings low high);
  stamps = λ z count bytes happenings low high. part_4_by z (all_happened z (new_view count bytes) happenings) (layers_stay z count bytes happenings low high);
  nobody = λ z count bytes happenings low high. part_6_by z (all_happened z (new_view count bytes) happenings) (layers_stay z count bytes happenings low high);
  waits = λ z count bytes happenings low high. part_7_by z (all_happened z (new_view count bytes) happenings) (layers_stay z count bytes happenings low high);
  cached = λ z count bytes happenings low high f. part_2_by z (all_happened z (new_view count bytes) happenings) (layers_stay z count bytes happenings low high) f;
  on_the_way = λ z count bytes happenings low high f. part_5_by z (all_happened z (new_view count bytes) happenings) (layers_stay z count bytes happenings low high) f;
}
