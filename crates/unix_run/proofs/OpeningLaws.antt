-- Calls that make a name, a file or a device first, and then open it.
use Rattle.std.proofs.Common.{◌≡◌, ℕ, Bool, true, false, not, List, Option, None, Result, Ok, Err, IfOk, refl, sym, ap, subst, ◌∙◌}
use Rattle.sprite_ids.specs.declared.errno.Errno.{Errno}
use Rattle.sprite_ids.specs.declared.errno.Errno.TheVariants as errno
use Rattle.sprite_ids.specs.declared.names.Mode.TheVariants as mode
use Rattle.process_machine.specs.declared.call.Reply.{Reply}
use Rattle.unix_calls.specs.declared.description.Description.{Description}
use Rattle.unix_calls.specs.declared.state.FileName.{FileName}
use Rattle.unix_calls.specs.declared.state.FileName.TheVariants.{Made}
use Rattle.unix_calls.specs.declared.state.Flags.{Flags}
use Rattle.unix_calls.specs.declared.state.Object.TheVariants.{OfFile, OfMaster}
use Rattle.unix_calls.specs.declared.state.Process.{Process}
use Rattle.unix_calls.specs.Tree.{above, first_of, is_full}
use Rattle.unix_calls.specs.State.{Unix}
use Rattle.unix_calls.specs.Answers.{Outcome, unless_refused}
use Rattle.unix_calls.specs.NameCalls.{new_refusal, refusal_if}
use Rattle.unix_calls.specs.Opening.{creates_file, cut, make_at, opened, with_new_device, with_new_file}
use Rattle.unix_world.specs.declared.World.{World}
use Rattle.unix_run.specs.declared.came.Came.{Came}
use Rattle.unix_run.specs.declared.came.Came.TheVariants as came
use Rattle.unix_run.specs.Contents.{cut_files}
use Rattle.unix_world.specs.Worlds.{unix_of}
use Rattle.unix_run.specs.Coming.{Comes, Keeps}

-- what a call comes to whose first step leads to another state, where another call is answered
pub comes_from : (c : Description) (call inner : Unix → Process → Outcome) (w between : World) (p : Process) (reply : Reply) (is : Came) (after : World) (q : Process) → ((ps : List Process) → call (unix_of c w ps) p ≡ inner (unix_of c between ps) p) → between.entries ≡ w.entries → is ≡ came.Answered reply → Comes c inner between p is after q → Comes c call w p is after q
comes_from c call inner w between p reply is after q step entries answered h =
    let keeps : Keeps (came.Answered reply) w p after q = tt in
    record { tells = λ ps. step ps ∙ h.tells ps; same = h.same; stays = h.stays ∙ entries; keeps = subst (λ (i : Came). Keeps i w p after q) (sym answered) keeps }

-- two facts of what a call gave make a third
pub if_both : {A E : Type 0} {P Q R : A → Type 0} (r : Result A E) → ((x : A) → P x → Q x → R x) → IfOk r P → IfOk r Q → IfOk r R
if_both (Ok x) f p q = f x p q
if_both (Err e) f p q = tt

-- a file is made
pub creates : (c : Description) (u : Unix) (p : Process) (fd : ℕ) (flags : Flags) (path : List (List ℕ)) → flags.creates ≡ true → is_full u.nodes (above path) ≡ false → creates_file c u p fd flags path ≡ opened c (with_new_file path u) p fd (OfFile (Made u.entries)) flags.mode flags.appends
creates c u p fd flags path wanted room =
    let rest = opened c (with_new_file path u) p fd (OfFile (Made u.entries)) flags.mode flags.appends in
    ap (λ (b : Bool). unless_refused c u p (first_of (refusal_if (not b) errno.NoEntry) (refusal_if (is_full u.nodes (above path)) errno.TooMany)) rest) wanted
    ∙ ap (λ (b : Bool). unless_refused c u p (refusal_if b errno.TooMany) rest) room

-- a device is made
pub makes : (c : Description) (u : Unix) (p : Process) (fd : ℕ) (path : List (List ℕ)) → new_refusal u path ≡ None → make_at c u p fd path ≡ opened c (with_new_device path u) p fd (OfMaster u.entries) mode.Both false
makes c u p fd path free =
    ap (λ (o : Option Errno). unless_refused c u p o (opened c (with_new_device path u) p fd (OfMaster u.entries) mode.Both false)) free

-- a truncation changes the files alone
pub cut_is : (truncates : Bool) (name : FileName) (u : Unix) → cut truncates name u ≡ record u { files = cut_files truncates name u.files }
cut_is true name u = refl
cut_is false name u = refl
