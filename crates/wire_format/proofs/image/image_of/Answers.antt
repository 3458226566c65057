use Rattle.wire_format.proofs.ImageLaws.{image_chosen}
use Rattle.wire_format.proofs.image.image_of.Goals as goal

pub returns : goal.returns
returns c = image_chosen c.of_parts.result _ c.of_parts.ensures.some c.of_parts.ensures.value
