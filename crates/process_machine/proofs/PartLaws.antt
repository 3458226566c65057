-- An image of which some pages are away does what the whole image does.
use Rattle.std.proofs.Common.{◌≡◌, ℕ, zero, suc, ◌+◌, ◌%◌, ◌==◌, List, Option, Some, None, Bool, true, false, refl, ap, sym, subst, ◌∙◌, arith, slice_get, if◌then◌else◌}
use Rattle.byteorder.specs.Endian.{little_number, little_bytes}
use Rattle.sprite_ids.specs.declared.errno.Errno.{Errno}
use Rattle.process_machine.specs.declared.arguments.Arguments.{Arguments}
use Rattle.process_machine.specs.declared.instruction.Instruction.{Instruction}
use Rattle.process_machine.specs.declared.instruction.Instruction.TheVariants.{Set, Mov, Add, Sub, Mul, Addi, Div, Mod, Ldb, Stb, Ldw, Stw, Jmp, Jeq, Jne, Jlt, Sys}
use Rattle.process_machine.specs.declared.instruction.SyscallName.{SyscallName}
use Rattle.process_machine.specs.declared.instruction.SyscallName.TheVariants as name
use Rattle.process_machine.specs.declared.call.Call.TheVariants as made
use Rattle.process_machine.specs.declared.call.Reply.{Reply}
use Rattle.process_machine.specs.declared.call.Reply.TheVariants.{Value, Error}
use Rattle.process_machine.specs.declared.parts.Parts.{Parts}
use Rattle.process_machine.specs.declared.memory.Access.{Access}
use Rattle.process_machine.specs.declared.memory.Access.TheVariants.{Present, Outside, Away}
use Rattle.process_machine.specs.declared.program.Program.{Program}
use Rattle.process_machine.specs.Machine.{Machine, register, put, at_place, with_pages}
use Rattle.process_machine.specs.Memory.{byte_at, bytes_at, with_byte, with_bytes, byte_access, word_access}
use Rattle.process_machine.specs.Arguments.{arguments}
use Rattle.process_machine.specs.Parts.{parts_of, refusal, first_away}
use Rattle.process_machine.specs.Calls.{named_call, unless_refused, call_with, call_in, call_at}
use Rattle.process_machine.specs.Steps.{Step, Moved, AtCall, AtBadStep, touching, jumped, wanting, calling, done, done_if, step_of}
use Rattle.process_machine.specs.Runs.{moved, ahead}
use Rattle.process_machine.specs.Replies.{answer_address, answered, given_in, given}
use Rattle.process_machine.specs.Facts.{IsPart, filled}
use Rattle.process_machine.proofs.FillLaws.{byte_part, bytes_part, IsShown, AreShown, byte_shown, word_shown, shown_byte, shown_bytes, byte_present, byte_outside, word_present, word_outside, same_refusal, none_lacking, parts_shown}
use Rattle.process_machine.proofs.StepLaws.{moved_to, divided_to, touched_to, never_moves}
use Rattle.process_machine.proofs.MachineLaws.{ahead_then, ahead_first}
use Rattle.sprite_ids.proofs.ListLaws.{some_is}

-- the step moves to the image, with the pages that are away there filled in
pub record MovesToo (s : Step) (n : Machine) : Type 0 where
  pub pages : List (Option (List ℕ))
  pub part : IsPart n.pages pages
  pub step : s ≡ Moved (filled n pages)

put_too : (m n : Machine) (ws : List (Option (List ℕ))) (s : Step) (r value : ℕ) → IsPart m.pages ws → n ≡ put m r value → s ≡ Moved (put (filled m ws) r value) → MovesToo s n
put_too m n ws s r value h e k = subst (MovesToo s) (sym e) (record { pages = ws; part = h; step = k })

place_too : (m n : Machine) (ws : List (Option (List ℕ))) (s : Step) (place : ℕ) → IsPart m.pages ws → n ≡ at_place m place → s ≡ Moved (at_place (filled m ws) place) → MovesToo s n
place_too m n ws s place h e k = subst (MovesToo s) (sym e) (record { pages = ws; part = h; step = k })

pages_too : (m n : Machine) (ws part whole : List (Option (List ℕ))) (s : Step) → IsPart part whole → n ≡ with_pages m part → s ≡ Moved (with_pages (filled m ws) whole) → MovesToo s n
pages_too m n ws part whole s h e k = subst (MovesToo s) (sym e) (record { pages = whole; part = h; step = k })

not_zero : (b : Bool) (next n : Machine) → (if b then AtBadStep else Moved next) ≡ Moved n → b ≡ false
not_zero true next n e = cc
not_zero false next n e = refl

divides : (b : Bool) (next : Machine) → b ≡ false → (if b then AtBadStep else Moved next) ≡ Moved next
divides true next e = cc
divides false next e = refl

touched : (access : Access) (next n : Machine) → touching access next ≡ Moved n → access ≡ Present
touched Present next n e = refl
touched Outside next n e = cc
touched (Away k) next n e = cc

jumped_too : (b : Bool) (m n : Machine) (ws : List (Option (List ℕ))) (place : ℕ) → IsPart m.pages ws → jumped b m place ≡ Moved n → MovesToo (jumped b (filled m ws) place) n
jumped_too true m n ws place h e = place_too m n ws _ place h (moved_to _ n e) refl
jumped_too false m n ws place h e = place_too m n ws _ (m.counter + 1) h (moved_to _ n e) refl

done_too : (i : Instruction) (m n : Machine) (ws : List (Option (List ℕ))) → IsPart m.pages ws → done i m ≡ Moved n → MovesToo (done i (filled m ws)) n
done_too (Set d v) m n ws h e = put_too m n ws _ d _ h (moved_to _ n e) refl
done_too (Mov d s) m n ws h e = put_too m n ws _ d _ h (moved_to _ n e) refl
done_too (Add d s) m n ws h e = put_too m n ws _ d _ h (moved_to _ n e) refl
done_too (Sub d s) m n ws h e = put_too m n ws _ d _ h (moved_to _ n e) refl
done_too (Mul d s) m n ws h e = put_too m n ws _ d _ h (moved_to _ n e) refl
done_too (Addi d v) m n ws h e = put_too m n ws _ d _ h (moved_to _ n e) refl
done_too (Div d s) m n ws h e =
    put_too m n ws _ d _ h (divided_to (register m s) _ n (register m s == 0) e) (divides (register m s == 0) _ (not_zero (register m s == 0) _ n e))
done_too (Mod d s) m n ws h e =
    put_too m n ws _ d _ h (divided_to (register m s) _ n (register m s == 0) e) (divides (register m s == 0) _ (not_zero (register m s == 0) _ n e))
done_too (Ldb d a) m n ws h e =
    let here = touched (byte_access m.pages (register m a)) _ n e in
    let same = shown_byte m.pages ws (register m a) h (byte_shown m.pages (register m a) here) in
    put_too m n ws _ d _ h (touched_to (byte_access m.pages (register m a)) _ n e)
    (ap (λ access. touching access (put (filled m ws) d (byte_at ws (register m a)))) (byte_present m.pages ws (register m a) h here)
    ∙ ap (λ v. Moved (put (filled m ws) d v)) same)
done_too (Stb a s) m n ws h e =
    let here = touched (byte_access m.pages (register m a)) _ n e in
    pages_too m n ws _ _ _ (byte_part m.pages ws (register m a) (register m s % 256) h) (touched_to (byte_access m.pages (register m a)) _ n e)
    (ap (λ access. touching access (with_pages (filled m ws) (with_byte ws (register m a) (register m s % 256)))) (byte_present m.pages ws (register m a) h here))
done_too (Ldw d a) m n ws h e =
    let here = touched (word_access m.pages (register m a)) _ n e in
    let same = shown_bytes m.pages ws (register m a) 8 h (word_shown m.pages (register m a) here) in
    put_too m n ws _ d _ h (touched_to (word_access m.pages (register m a)) _ n e)
    (ap (λ access. touching access (put (filled m ws) d (little_number 8 (bytes_at ws (register m a) 8)))) (word_present m.pages ws (register m a) h here)
    ∙ ap (λ bytes. Moved (put (filled m ws) d (little_number 8 bytes))) same)
done_too (Stw a s) m n ws h e =
    let here = touched (word_access m.pages (register m a)) _ n e in
    pages_too m n ws _ _ _ (bytes_part m.pages ws (register m a) (little_bytes 8 (register m s)) h) (touched_to (word_access m.pages (register m a)) _ n e)
    (ap (λ access. touching access (with_pages (filled m ws) (with_bytes ws (register m a) (little_bytes 8 (register m s))))) (word_present m.pages ws (register m a) h here))
done_too (Jmp place) m n ws h e = place_too m n ws _ place h (moved_to _ n e) refl
done_too (Jeq a b place) m n ws h e = jumped_too _ m n ws place h e
done_too (Jne a b place) m n ws h e = jumped_too _ m n ws place h e
done_too (Jlt a b place) m n ws h e = jumped_too _ m n ws place h e
done_too (Sys called operands) m n ws h e =
    absurd (never_moves (refusal m.pages (parts_of called (arguments m operands))) _ m.pages (parts_of called (arguments m operands)) n refl e)

done_if_too : (i : Option Instruction) (m n : Machine) (ws : List (Option (List ℕ))) → IsPart m.pages ws → done_if i m ≡ Moved n → MovesToo (done_if i (filled m ws)) n
done_if_too None m n ws h e = cc
done_if_too (Some i) m n ws h e = done_too i m n ws h e

-- a step of the part is one of the whole
pub step_too : (p : Program) (m n : Machine) (ws : List (Option (List ℕ))) → IsPart m.pages ws → step_of p m ≡ Moved n → MovesToo (step_of p (filled m ws)) n
step_too p m n ws h e = done_if_too (slice_get p.code m.counter) m n ws h e

-- and so is a run
pub record RunsToo (p : Program) (m last : Machine) (n : ℕ) (ws : List (Option (List ℕ))) : Type 0 where
  pub pages : List (Option (List ℕ))
  pub part : IsPart last.pages pages
  pub run : ahead p (filled m ws) n ≡ Some (filled last pages)

run_none : (p : Program) (m last : Machine) (ws : List (Option (List ℕ))) → IsPart m.pages ws → m ≡ last → RunsToo p m last 0 ws
run_none p m last ws h e = subst (λ (x : Machine). RunsToo p m x 0 ws) e (record { pages = ws; part = h; run = refl })

pub ahead_too : (p : Program) (m last : Machine) (n : ℕ) (ws : List (Option (List ℕ))) → IsPart m.pages ws → ahead p m n ≡ Some last → RunsToo p m last n ws
ahead_too p m last zero ws h e = run_none p m last ws h (some_is m last e)
ahead_too p m last (suc n) ws h e =
    let first = ahead_first p m last n e in
    let here = step_too p m first.next ws h first.step in
    let rest = ahead_too p first.next last n here.pages here.part first.rest in
    let one : ahead p (filled m ws) 1 ≡ Some (filled first.next here.pages) = ap moved here.step in
    let count : suc n ≡ 1 + n = omega arith in
    record {
      pages = rest.pages;
      part = rest.part;
      run = ap (ahead p (filled m ws)) count ∙ (ahead_then p (filled m ws) (filled first.next here.pages) 1 n one ∙ rest.run);
    }

-- a bad step of the part is one of the whole
is_zero : (b : Bool) (next other : Machine) → (if b then AtBadStep else Moved next) ≡ AtBadStep → (if b then AtBadStep else Moved other) ≡ AtBadStep
is_zero true next other e = refl
is_zero false next other e = cc

touched_bad : (access : Access) (next : Machine) → touching access next ≡ AtBadStep → access ≡ Outside
touched_bad Present next e = cc
touched_bad Outside next e = refl
touched_bad (Away k) next e = cc

jumped_bad : (b : Bool) (m : Machine) (place : ℕ) → jumped b m place ≡ AtBadStep → ⊥
jumped_bad true m place e = cc
jumped_bad false m place e = cc

called_bad : (errno : Option Errno) (away : Option ℕ) (pages : List (Option (List ℕ))) (parts : Parts) → first_away 0 pages parts ≡ away → calling errno pages parts ≡ AtBadStep → ⊥
called_bad None None pages parts f e = cc
called_bad None (Some k) pages parts f e = cc
called_bad (Some errno) away pages parts f e = cc

done_bad : (i : Instruction) (m : Machine) (ws : List (Option (List ℕ))) → IsPart m.pages ws → done i m ≡ AtBadStep → done i (filled m ws) ≡ AtBadStep
done_bad (Div d s) m ws h e = is_zero (register m s == 0) _ _ e
done_bad (Mod d s) m ws h e = is_zero (register m s == 0) _ _ e
done_bad (Ldb d a) m ws h e =
    ap (λ access. touching access (put (filled m ws) d (byte_at ws (register m a)))) (byte_outside m.pages ws (register m a) h (touched_bad _ _ e))
done_bad (Stb a s) m ws h e =
    ap (λ access. touching access (with_pages (filled m ws) (with_byte ws (register m a) (register m s % 256)))) (byte_outside m.pages ws (register m a) h (touched_bad _ _ e))
done_bad (Ldw d a) m ws h e =
    ap (λ access. touching access (put (filled m ws) d (little_number 8 (bytes_at ws (register m a) 8)))) (word_outside m.pages ws (register m a) h (touched_bad _ _ e))
done_bad (Stw a s) m ws h e =
    ap (λ access. touching access (with_pages (filled m ws) (with_bytes ws (register m a) (little_bytes 8 (register m s))))) (word_outside m.pages ws (register m a) h (touched_bad _ _ e))
done_bad (Jeq a b place) m ws h e = absurd (jumped_bad _ m place e)
done_bad (Jne a b place) m ws h e = absurd (jumped_bad _ m place e)
done_bad (Jlt a b place) m ws h e = absurd (jumped_bad _ m place e)
done_bad (Sys called operands) m ws h e =
    absurd (called_bad (refusal m.pages (parts_of called (arguments m operands))) _ m.pages (parts_of called (arguments m operands)) refl e)
done_bad _ m ws h e = cc

done_if_bad : (i : Option Instruction) (m : Machine) (ws : List (Option (List ℕ))) → IsPart m.pages ws → done_if i m ≡ AtBadStep → done_if i (filled m ws) ≡ AtBadStep
done_if_bad None m ws h e = refl
done_if_bad (Some i) m ws h e = done_bad i m ws h e

pub bad_too : (p : Program) (m : Machine) (ws : List (Option (List ℕ))) → IsPart m.pages ws → step_of p m ≡ AtBadStep → step_of p (filled m ws) ≡ AtBadStep
bad_too p m ws h e = done_if_bad (slice_get p.code m.counter) m ws h e

-- a call of the part is the same call of the whole
one_same : (part whole : List (Option (List ℕ))) (address count : ℕ) → IsPart part whole → AreShown part address count → bytes_at whole address count ≡ bytes_at part address count
one_same part whole address count h s = shown_bytes part whole address count h s

named_same : (n : SyscallName) (a : Arguments) (part whole : List (Option (List ℕ))) → IsPart part whole → IsShown part (parts_of n a).first → IsShown part (parts_of n a).second → named_call n a whole ≡ named_call n a part
named_same name.Print a part whole h s t = ap made.Print (one_same part whole a.first a.second h s)
named_same name.Exec a part whole h s t = ap (λ b. made.Exec b a.third) (one_same part whole a.first a.second h s)
named_same name.Open a part whole h s t = ap (λ b. made.OpenFile b a.third) (one_same part whole a.first a.second h s)
named_same name.Write a part whole h s t = ap (made.Write a.first) (one_same part whole a.second a.third h s)
named_same name.Stat a part whole h s t = ap made.Stat (one_same part whole a.first a.second h s)
named_same name.Mkdir a part whole h s t = ap made.Mkdir (one_same part whole a.first a.second h s)
named_same name.Rmdir a part whole h s t = ap made.Rmdir (one_same part whole a.first a.second h s)
named_same name.Unlink a part whole h s t = ap made.Unlink (one_same part whole a.first a.second h s)
named_same name.Rename a part whole h s t =
    ap (λ b. made.Rename b (bytes_at whole a.third a.fourth)) (one_same part whole a.first a.second h s)
    ∙ ap (made.Rename (bytes_at part a.first a.second)) (one_same part whole a.third a.fourth h t)
named_same name.List a part whole h s t = ap (λ b. made.List b a.fourth) (one_same part whole a.first a.second h s)
named_same name.Chdir a part whole h s t = ap made.Chdir (one_same part whole a.first a.second h s)
named_same name.Migrate a part whole h s t = ap made.Migrate (one_same part whole a.first a.second h s)
named_same name.PdMake a part whole h s t = ap made.PdMake (one_same part whole a.first a.second h s)
named_same name.PdPut a part whole h s t = ap (λ b. made.PdPut a.first b a.fourth) (one_same part whole a.second a.third h s)
named_same name.Ioctl a part whole h s t = ap (made.Ioctl a.first a.second) (one_same part whole a.third a.fourth h s)
named_same name.Rexec a part whole h s t =
    ap (λ b. made.Rexec b (bytes_at whole a.third a.fourth)) (one_same part whole a.first a.second h s)
    ∙ ap (made.Rexec (bytes_at part a.first a.second)) (one_same part whole a.third a.fourth h t)
named_same _ a part whole h s t = refl

-- the whole stands at a system call, and at the same one
pub record CallsToo (p : Program) (m : Machine) (ws : List (Option (List ℕ))) : Type 0 where
  pub step : step_of p (filled m ws) ≡ AtCall
  pub call : call_at p (filled m ws) ≡ call_at p m

wants_nothing : (away : Option ℕ) → wanting away ≡ AtCall → away ≡ None
wants_nothing None e = refl
wants_nothing (Some k) e = cc

calling_same : (n : SyscallName) (a : Arguments) (part whole : List (Option (List ℕ))) (errno : Option Errno) → refusal part (parts_of n a) ≡ errno → IsPart part whole → calling errno part (parts_of n a) ≡ AtCall → (calling errno whole (parts_of n a) ≡ AtCall) × (unless_refused errno (named_call n a whole) ≡ unless_refused errno (named_call n a part))
calling_same n a part whole (Some errno) r h e = (refl, refl)
calling_same n a part whole None r h e =
    let none = wants_nothing (first_away 0 part (parts_of n a)) e in
    let shown = parts_shown part (parts_of n a) r none in
    (ap wanting (none_lacking 0 part whole (parts_of n a) h none), named_same n a part whole h shown.0 shown.1)

with_refusal : (n : SyscallName) (a : Arguments) (part whole : List (Option (List ℕ))) → IsPart part whole → calling (refusal part (parts_of n a)) part (parts_of n a) ≡ AtCall → (calling (refusal whole (parts_of n a)) whole (parts_of n a) ≡ AtCall) × (call_with n a whole ≡ call_with n a part)
with_refusal n a part whole h e =
    let same = same_refusal part whole (parts_of n a) h in
    let both = calling_same n a part whole (refusal part (parts_of n a)) refl h e in
    (ap (λ r. calling r whole (parts_of n a)) same ∙ both.0, ap (λ r. unless_refused r (named_call n a whole)) same ∙ both.1)

moves_no_call : (m : Machine) → Moved m ≡ AtCall → ⊥
moves_no_call m e = cc

divided_no_call : (b : Bool) (next : Machine) → (if b then AtBadStep else Moved next) ≡ AtCall → ⊥
divided_no_call true next e = cc
divided_no_call false next e = cc

touched_no_call : (access : Access) (next : Machine) → touching access next ≡ AtCall → ⊥
touched_no_call Present next e = cc
touched_no_call Outside next e = cc
touched_no_call (Away k) next e = cc

jumped_no_call : (b : Bool) (m : Machine) (place : ℕ) → jumped b m place ≡ AtCall → ⊥
jumped_no_call true m place e = cc
jumped_no_call false m place e = cc

done_call : (i : Instruction) (m : Machine) (ws : List (Option (List ℕ))) → IsPart m.pages ws → done i m ≡ AtCall → (done i (filled m ws) ≡ AtCall) × (call_in (Some i) (filled m ws) ≡ call_in (Some i) m)
done_call (Sys called operands) m ws h e = with_refusal called (arguments m operands) m.pages ws h e
done_call (Div d s) m ws h e = absurd (divided_no_call _ _ e)
done_call (Mod d s) m ws h e = absurd (divided_no_call _ _ e)
done_call (Ldb d a) m ws h e = absurd (touched_no_call _ _ e)
done_call (Stb a s) m ws h e = absurd (touched_no_call _ _ e)
done_call (Ldw d a) m ws h e = absurd (touched_no_call _ _ e)
done_call (Stw a s) m ws h e = absurd (touched_no_call _ _ e)
done_call (Jeq a b place) m ws h e = absurd (jumped_no_call _ m place e)
done_call (Jne a b place) m ws h e = absurd (jumped_no_call _ m place e)
done_call (Jlt a b place) m ws h e = absurd (jumped_no_call _ m place e)
done_call _ m ws h e = absurd (moves_no_call _ e)

done_if_call : (i : Option Instruction) (m : Machine) (ws : List (Option (List ℕ))) → IsPart m.pages ws → done_if i m ≡ AtCall → (done_if i (filled m ws) ≡ AtCall) × (call_in i (filled m ws) ≡ call_in i m)
done_if_call None m ws h e = cc
done_if_call (Some i) m ws h e = done_call i m ws h e

pub call_too : (p : Program) (m : Machine) (ws : List (Option (List ℕ))) → IsPart m.pages ws → step_of p m ≡ AtCall → CallsToo p m ws
call_too p m ws h e =
    let both = done_if_call (slice_get p.code m.counter) m ws h e in record { step = both.0; call = both.1 }

-- an answer to the part is one to the whole
pub record GivenToo (new m : Machine) : Type 0 where
  pub pages : List (Option (List ℕ))
  pub part : IsPart m.pages pages
  pub same : new ≡ filled m pages

answered_too : (address : ℕ) (m : Machine) (ws : List (Option (List ℕ))) (reply : Reply) → IsPart m.pages ws → GivenToo (answered address (filled m ws) reply) (answered address m reply)
answered_too address m ws (Value first second bytes) h =
    record { pages = with_bytes ws address bytes; part = bytes_part m.pages ws address bytes h; same = refl }
answered_too address m ws (Error errno) h = record { pages = ws; part = h; same = refl }

given_in_too : (i : Option Instruction) (m : Machine) (ws : List (Option (List ℕ))) (reply : Reply) → IsPart m.pages ws → GivenToo (given_in i (filled m ws) reply) (given_in i m reply)
given_in_too None m ws reply h = record { pages = ws; part = h; same = refl }
given_in_too (Some (Sys called operands)) m ws reply h = answered_too (answer_address called (arguments m operands)) m ws reply h
given_in_too (Some _) m ws reply h = record { pages = ws; part = h; same = refl }

pub given_too : (p : Program) (m : Machine) (ws : List (Option (List ℕ))) (reply : Reply) → IsPart m.pages ws → GivenToo (given p (filled m ws) reply) (given p m reply)
given_too p m ws reply h = given_in_too (slice_get p.code m.counter) m ws reply h
