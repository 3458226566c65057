use Rattle.client_requests.proofs.RequestLaws.{images_keep_them}
use Rattle.client_requests.proofs.laws.images_keep_them.Goals as goal

pub returns : goal.returns
returns c = images_keep_them
