-- The fifth layer of soundness: which modes are on their way.
use Rattle.std.specs.Prelude.{◌≡◌, ◌<◌, ◌⊎◌, ℕ, Bool, true, false, List, length, Option, Some}
use Rattle.sprite_ids.specs.declared.CacheMode.{CacheMode}
use Rattle.sprite_ids.specs.declared.CallKind.{CallKind}
use Rattle.file_views.specs.declared.grant.FileGrant.{FileGrant}
use Rattle.file_views.specs.declared.body.FileBody.TheVariants as form
use Rattle.file_views.specs.declared.call.FileCall.{FileCall}
use Rattle.file_views.specs.declared.view.View.{View}
use Rattle.file_views.specs.Clients.{is_on, mode_of}
use Rattle.file_views.specs.Here.{In, IsClient, Here, at_kernel, Arrives, Newer, EachNewer, Stopped}

-- a grant with that stamp, or a callback with it, is on its way to the kernel
pub record GrantWith (kernel stamp : ℕ) (calls : List FileCall) : Type 0 where
  pub call : FileCall
  pub grant : FileGrant
  pub there : In call calls
  pub arrives : Arrives kernel call grant
  pub stamped : grant.stamp ≡ stamp

pub record CallbackWith (kernel stamp : ℕ) (calls : List FileCall) : Type 0 where
  pub call : FileCall
  pub kind : CallKind
  pub there : In call calls
  pub to_kernel : call.to ≡ kernel
  pub is_call : call.body ≡ form.Callback stamp kind
  pub untaken : call.taken ≡ false

-- a newer grant on its way to the kernel that is the given one but for its size
pub record SameNewer (kernel own : ℕ) (calls : List FileCall) (grant : FileGrant) : Type 0 where
  pub call : FileCall
  pub newer : FileGrant
  pub is_newer : Newer kernel own calls call newer
  pub same : record newer { size = 0 } ≡ record grant { size = 0 }

-- a client's stamp is its current one, or that is on its way to it; the grant given last tells the mode given last where its stamp
-- is the current one, and is the newest grant on its way; an Again that is newer is a grant on its way; a client that uses its
-- cache, or will, was given On last or is being stopped; a newer grant Off comes only while the file is uncached, to a client that
-- doesn't use its cache and won't
pub record ModeFacts (kernel own current : ℕ) (now mode : CacheMode) (given : Option FileGrant) (uncached : Bool) (calls : List FileCall) : Type 0 where
  pub reached : (own ≡ current) ⊎ (GrantWith kernel current calls ⊎ CallbackWith kernel current calls)
  pub given_mode : (grant : FileGrant) → given ≡ Some grant → grant.stamp ≡ current → mode ≡ mode_of grant.on
  pub given_last : EachNewer kernel own calls (λ one grant. grant.stamp ≡ current → given ≡ Some (record grant { size = 0 }))
  pub again : (one : FileCall) → In one calls → one.from ≡ kernel → (grant : FileGrant) → one.reply ≡ Some (form.Again grant) → own < grant.stamp → SameNewer kernel own calls grant
  pub on_now : is_on now ≡ true → (is_on mode ≡ true) ⊎ Stopped kernel calls
  pub on_later : EachNewer kernel own calls (λ one grant. grant.on ≡ true → (is_on mode ≡ true) ⊎ Stopped kernel calls)
  pub off_uncached : EachNewer kernel own calls (λ one grant. grant.on ≡ false → uncached ≡ true)
  pub off_now : EachNewer kernel own calls (λ one grant. grant.on ≡ false → is_on now ≡ false)
  pub off_later : EachNewer kernel own calls (λ one grant. grant.on ≡ false → EachNewer kernel own calls (λ other more. more.on ≡ false))

abbrev pub LocalModes : Here → Type 0
LocalModes here = ModeFacts here.kernel here.client.stamp here.current here.client.mode here.mode here.given here.uncached here.calls

abbrev pub Modes : View → Type 0
Modes v = (kernel : ℕ) → IsClient (length v.clients) kernel → LocalModes (at_kernel v kernel)
