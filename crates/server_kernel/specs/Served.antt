-- What the server does with a request.
use Rattle.std.specs.Prelude.{ℕ, Bool, if◌then◌else◌, List, Option, Some, None}
use Rattle.sprite_ids.specs.declared.TxNo.{TxNo}
use Rattle.packet_bodies.specs.declared.Request.{Request}
use Rattle.packet_bodies.specs.declared.Request.TheVariants as requests
use Rattle.packet_bodies.specs.declared.ReplyBody.TheVariants as replies
use Rattle.packet_bodies.specs.declared.PageOutRequest.{PageOutRequest}
use Rattle.swap_pages.specs.Swap as swaps
use Rattle.server_kernel.specs.declared.asked.Asked.{Asked}
use Rattle.server_kernel.specs.declared.server.Server.{Server}
use Rattle.server_kernel.specs.Says.{answers}
use Rattle.server_kernel.specs.Directory.{Parts, is_root}
use Rattle.server_kernel.specs.Names.{names, makes_device}
use Rattle.server_kernel.specs.Opens.{opens}
use Rattle.server_kernel.specs.Requests.{moves, closes, uses, brings_back}

-- a domain that this server serves is told; of any other one nothing is said
abbrev pub tells : TxNo → Parts → Server → Server
tells tx path s = if is_root path s then answers tx (replies.Here path) s else s

-- a page of a process that moves is kept
abbrev pub puts_page : TxNo → PageOutRequest → Server → Server
puts_page tx r s = answers tx replies.Done (record s { swap = swaps.put s.swap r.pid r.page r.bytes })

-- and is given back
abbrev pub gives_taken : TxNo → Option (List ℕ) → Server → Server
gives_taken tx (Some bytes) s = answers tx (replies.Page bytes) s
gives_taken tx None s = s

abbrev pub gives_page : TxNo → ℕ → ℕ → Server → Server
gives_page tx pid page s = gives_taken tx (swaps.bytes_of s.swap pid page) (record s { swap = swaps.without s.swap pid page })

-- a request about a file; other requests are never sent to a server
abbrev pub serves_file_by : Request → Asked → Server → Server
serves_file_by (requests.Close r) asked s = closes asked r s
serves_file_by (requests.Move r) asked s = moves asked r s
serves_file_by (requests.Op r) asked s = uses asked r.file r.stamp s
serves_file_by (requests.Fetch r) asked s = uses asked r.file r.stamp s
serves_file_by (requests.WriteBack r) asked s = brings_back asked r s
serves_file_by _ asked s = s

abbrev pub serves_file : Asked → Server → Server
serves_file asked s = serves_file_by asked.body asked s

-- a request
abbrev pub serves_by : Request → Asked → Server → Server
serves_by requests.Echo asked s = answers asked.tx replies.Done s
serves_by (requests.Prefix path) asked s = tells asked.tx path s
serves_by (requests.Opening r) asked s = opens asked r s
serves_by (requests.Name r) asked s = names asked r s
serves_by (requests.Make r) asked s = makes_device asked.tx r s
serves_by (requests.PageOut r) asked s = puts_page asked.tx r s
serves_by (requests.PageIn pid page) asked s = gives_page asked.tx pid page s
serves_by _ asked s = serves_file asked s

abbrev pub serves : Asked → Server → Server
serves asked s = serves_by asked.body asked s
