-- What a step of a server tells and sends.
use Rattle.std.proofs.Common.{◌≡◌, true, List, [], ◌∷◌, ◌++◌, refl}
use Rattle.std.specs.List.{AllByRecursion}
use Rattle.sprite_ids.specs.declared.Callback.{Callback}
use Rattle.sprite_ids.proofs.ListLaws.{each_push}
use Rattle.kernel_steps.specs.declared.Sending.{Sending}
use Rattle.unix_calls.specs.declared.Event.{Event}
use Rattle.unix_calls.specs.declared.Event.TheVariants as events
use Rattle.unix_calls.specs.declared.SendKind.TheVariants.{Other}
use Rattle.server_kernel.specs.declared.Asked.{Asked}
use Rattle.server_kernel.specs.Grants.{about_of, callback_sending}
use Rattle.server_kernel.specs.Steps.{begins}
use Rattle.server_walks.specs.Served.{CallsBack, ServersCallBackSo, ServersTellSo, is_served}
use Rattle.server_walks.proofs.Bearing.{any_comes, saying, server_takes}
use Rattle.server_walks.proofs.Deeds.{Every}

abbrev AreServed : List Event → Type 0
AreServed told = AllByRecursion (λ (event : Event). is_served event ≡ true) told

one_more : (told : List Event) (event : Event) → is_served event ≡ true → AreServed told → AreServed (told ++ event ∷ [])
one_more told event h q = each_push (λ (event : Event). is_served event ≡ true) told event q h

pub servers_tell : ServersTellSo
servers_tell s input next =
    server_takes Every (λ v. AreServed v.told)
    (saying (λ next sends told. AreServed told) (λ next sends told event h q. one_more told event h q) (λ v request call q.
    let event : Event = events.Callback call.file call.to call.stamp call.kind in
    one_more (v.told ++ event ∷ []) (events.Send v.next call.to (about_of request.body) Other) refl (one_more v.told event refl q)))
    input (begins next s) (any_comes input) tt

sends_more : (sends : List Sending) (request : Asked) (call : Callback) → AllByRecursion CallsBack sends → AllByRecursion CallsBack (sends ++ callback_sending request call ∷ [])
sends_more sends request call q = each_push CallsBack sends (callback_sending request call) q (record { request = record { file = call.file; stamp = call.stamp; kind = call.kind }; body = refl; kernel = call.to; one = refl; lasts = refl })

pub servers_call_back : ServersCallBackSo
servers_call_back s input next =
    server_takes Every (λ v. AllByRecursion CallsBack v.sends)
    (saying (λ next sends told. AllByRecursion CallsBack sends) (λ next sends told event h q. q) (λ v request call q. sends_more v.sends request call q))
    input (begins next s) (any_comes input) tt
