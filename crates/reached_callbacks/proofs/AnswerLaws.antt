-- A client answers a callback in the step in which it comes.
use Rattle.std.proofs.Common.{◌≡◌, ℕ, zero, suc, ◌⊎◌, inl, inr, List, [], ◌∷◌, ◌++◌, Some, slice_get, refl, ap}
use Rattle.sprite_ids.specs.declared.TxNo.{TxNo}
use Rattle.block_cache.specs.Held.{flushed_of}
use Rattle.packet_bodies.specs.declared.CallbackRequest.{CallbackRequest}
use Rattle.packet_bodies.specs.declared.ReplyBody.{ReplyBody}
use Rattle.packet_bodies.specs.declared.ReplyBody.TheVariants.{Flushed}
use Rattle.packet_bodies.specs.declared.Request.TheVariants.{Callback}
use Rattle.kernel_steps.specs.declared.Input.{Input}
use Rattle.kernel_steps.specs.declared.Input.TheVariants as inputs
use Rattle.client_file_tables.specs.declared.ClientFiles.{ClientFiles}
use Rattle.client_data.specs.Grants as grants
use Rattle.client_homes.specs.declared.ClientProcs.{ClientProcs}
use Rattle.client_procs.specs.Steps.{begins_step, client_step, takes}
use Rattle.client_walks.proofs.Bearing.{Bears, Seen}
use Rattle.client_walks.proofs.NameBearing as files_side
use Rattle.client_walks.proofs.StepBearing.{rounds}
use Rattle.reached_callbacks.specs.Clients.{CallbacksAreAnswered}

-- the item stands in the list
abbrev pub IsIn : {X : Type 0} → X → List X → Type 0
IsIn {X} x [] = ⊥
IsIn {X} x (y ∷ ys) = (y ≡ x) ⊎ IsIn x ys

in_more : {X : Type 0} (x y : X) (xs : List X) → IsIn x xs → IsIn x (xs ++ y ∷ [])
in_more {X} x y [] h = absurd h
in_more {X} x y (z ∷ zs) (inl here) = inl here
in_more {X} x y (z ∷ zs) (inr later) = inr (in_more x y zs later)

in_last : {X : Type 0} (x : X) (xs : List X) → IsIn x (xs ++ x ∷ [])
in_last {X} x [] = inl refl
in_last {X} x (z ∷ zs) = inr (in_last x zs)

pub in_at : {X : Type 0} (x : X) (xs : List X) → IsIn x xs → (at : ℕ) × (slice_get xs at ≡ Some x)
in_at {X} x [] h = absurd h
in_at {X} x (z ∷ zs) (inl here) = (zero, ap Some here)
in_at {X} x (z ∷ zs) (inr later) = let found = in_at x zs later in (suc found.0, found.1)

-- it stays among the answers, whatever the step says
abbrev Answers : TxNo × ReplyBody → Seen → Type 0
Answers answer seen = IsIn answer seen.answers

answering : (answer : TxNo × ReplyBody) (came : Input) → Bears came (Answers answer)
answering answer came = record {
  telling = record {
    tells = λ seen event h q. q;
    enters = λ seen entry cause q. q;
    says = λ seen sending kind h q. q;
    answers = λ seen tx body here q. in_more answer (tx, body) seen.answers q;
    keeps = λ seen pid operation plain q. q;
    left = λ seen pid q. q;
    puts_back = λ seen pid operation e q. q;
    broadcasts = λ seen pid work prefix may e q. q;
    echoes = λ seen pid work server q. q;
    asks = λ seen pid work server q. q;
  };
  learns = λ seen prefix server e q. q;
}

pub callback_in : (s : ClientProcs) (tx : TxNo) (source : ℕ) (request : CallbackRequest) (next : TxNo) (step : ℕ)
    → IsIn (tx, Flushed (flushed_of s.files.cache request.file)) (client_step s (inputs.Request tx source (Callback request)) next step).1.answers
callback_in s tx source request next step =
    let begun : ClientProcs = begins_step next step s in
    let came : Input = inputs.Request tx source (Callback request) in
    let answer : TxNo × ReplyBody = (tx, Flushed (flushed_of s.files.cache request.file)) in
    let dirty = grants.dirty_in request.file begun.files in
    let held = grants.held_in request.file begun.files in
    let settled : ClientFiles = grants.settles_called request.kind request.file dirty held (grants.notes_mode request.file request.stamp (grants.takes_callback request begun.files)) in
    rounds came (Answers answer) (answering answer came).telling (λ told from body t e p. files_side.answered came (Answers answer) (answering answer came) told from body t e p)
    (takes came begun) (in_last answer settled.out.answers)

pub callbacks_are_answered : CallbacksAreAnswered
callbacks_are_answered s tx source request next step =
    let found = in_at (tx, Flushed (flushed_of s.files.cache request.file)) (client_step s (inputs.Request tx source (Callback request)) next step).1.answers (callback_in s tx source request next step) in
    record { at = found.0; there = found.1 }
