-- What crosses threads with a cluster: the tables of its kernels.
use denote.Param.Send.{IsSend}
use denote.Param.SendFields.{declared_send}
use Rattle.std.proofs.Crossing.{crosses}
use Rattle.sprite_cluster.proofs.SendRecords.{whole, path_sends}
use Rattle.lru.proofs.Crosses as nodes
use Rattle.std.proofs.Crossing as std
use Rattle.write_delay.specs.contracts.delays.Delays as delays
use Rattle.block_cache.specs.contracts.cache.Cache as cache
use Rattle.prefix_table.specs.contracts.prefixes.Prefixes as prefixes
use Rattle.stream_table.specs.contracts.streams.Streams as streams
use Rattle.home_table.specs.contracts.home.Home as home
use Rattle.pseudo_device.specs.contracts.device.Device as device
use Rattle.file_store.specs.contracts.store.Store as store
use Rattle.version_table.specs.contracts.opens.Open as opened
use Rattle.version_table.specs.contracts.versioned.Asking as asking
use Rattle.version_table.specs.contracts.versioned.Versioned as versioned
use Rattle.version_table.specs.contracts.versions.Versions as versions
use Rattle.server_names.specs.contracts.names.Names as names
use Rattle.shadow_streams.specs.contracts.shadows.Shadows as shadows
use Rattle.swap_pages.specs.contracts.swap.Swap as swap

pub delays_sends : IsSend delays.the_row
delays_sends = search (whole, nodes.List-send, nodes.KeyRef-send, nodes.Deed-send, std.frees) depth 100 fits 400000

pub cache_sends : IsSend cache.the_row
cache_sends = search (whole, nodes.List-send, nodes.KeyRef-send, nodes.Deed-send, std.frees) depth 100 fits 400000

pub prefixes_sends : IsSend prefixes.the_row
prefixes_sends = search (whole, path_sends) depth 100 fits 400000

pub streams_sends : IsSend streams.the_row
streams_sends = search whole depth 100 fits 400000

pub home_sends : IsSend home.the_row
home_sends = search whole depth 100 fits 400000

pub device_sends : IsSend device.the_row
device_sends = search whole depth 100 fits 400000

pub store_sends : IsSend store.the_row
store_sends = search (whole, nodes.List-send, nodes.KeyRef-send, nodes.Deed-send, std.frees) depth 100 fits 400000

pub opened_sends : IsSend opened.the_row
opened_sends = search whole depth 100 fits 400000

pub asking_sends : IsSend asking.the_row
asking_sends = search (whole, opened_sends) depth 100 fits 400000

pub versioned_sends : IsSend versioned.the_row
versioned_sends = declared_send versioned.the_type (search (whole, opened_sends, asking_sends) depth 100 fits 400000)

pub versions_sends : IsSend versions.the_row
versions_sends = search (whole, versioned_sends, nodes.List-send, nodes.KeyRef-send, nodes.Deed-send, std.frees) depth 100 fits 400000

pub names_sends : IsSend names.the_row
names_sends = search (whole, path_sends) depth 100 fits 400000

pub shadows_sends : IsSend shadows.the_row
shadows_sends = search whole depth 100 fits 400000

pub swap_sends : IsSend swap.the_row
swap_sends = search whole depth 100 fits 400000
