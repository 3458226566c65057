-- What each call's outcome may change.
use Rattle.std.proofs.Common.{◌≡◌, ℕ, Bool, true, false, cond, List, [], ◌∷◌, Option, Some, None, refl}
use Rattle.std.specs.Prelude.{◌⊎◌, ◌<◌}
use Rattle.sprite_ids.specs.declared.errno.Errno.{Errno}
use Rattle.sprite_ids.specs.Pid.{home_of}
use Rattle.process_machine.specs.declared.call.Reply.{Reply}
use Rattle.process_machine.specs.declared.call.Reply.TheVariants.{Value, Error}
use Rattle.unix_calls.specs.declared.description.Description.{Description}
use Rattle.unix_calls.specs.State.{Process, Unix, put_process, with_process, births, next_pid}
use Rattle.unix_calls.specs.Answers.{Outcome, Answered, GoesTo, Waits, replied, replies, refuses, unless_refused}
use Rattle.unix_calls.specs.Laws.{IsWithin}

-- a process is one of these
abbrev pub IsAmong : Process → List Process → Type 0
IsAmong p [] = ⊥
IsAmong p (q ∷ qs) = (q ≡ p) ⊎ IsAmong p qs

-- the processes beside the caller that a call may change: none, a new one of that home, or the mark of one
pub data Others (ps : List Process) (home : ℕ) (after : List Process) : Type 0 where
  Nobody : after ≡ ps → Others ps home after
  Child : (child : Process) → child.pid ≡ next_pid ps home → births ps home < 200 → after ≡ put_process child ps → Others ps home after
  Marked : (old new : Process) → IsAmong old ps → new.pid ≡ old.pid → new.image ≡ old.image → new.ending ≡ old.ending → after ≡ put_process new ps → Others ps home after

-- whether a reply is a refusal
abbrev pub IsRefusal : Reply → Type 0
IsRefusal (Error e) = Unit {0}
IsRefusal (Value first second bytes) = ⊥

-- what an answered call does: it may change others, the tree, files, streams and devices, and puts its caller into that
pub record Does (c : Description) (u : Unix) (p : Process) (reply : Reply) (later : Unix) : Type 0 where
  pub between : Unix
  pub caller : Process
  pub others : Others u.processes (home_of p.pid) between.processes
  pub limit : between.limit ≡ u.limit
  pub within : IsWithin u → IsWithin between
  pub own : caller.pid ≡ p.pid
  pub whole : later ≡ with_process caller between
  pub refused : IsRefusal reply → later ≡ with_process (replied c p reply) u

abbrev pub DoesIn : Description → Unix → Process → Outcome → Type 0
DoesIn c u p (Answered reply later) = Does c u p reply later
DoesIn c u p (GoesTo place) = Unit {0}
DoesIn c u p Waits = Unit {0}

-- an outcome that does so where it is answered
pub record Fine (c : Description) (u : Unix) (p : Process) (o : Outcome) : Type 0 where
  pub does : DoesIn c u p o

pub fine_refuses : (c : Description) (u : Unix) (p : Process) (e : Errno) → Fine c u p (refuses c u p e)
fine_refuses c u p e =
    record {
      does = record {
        between = u;
        caller = replied c p (Error e);
        others = Nobody refl;
        limit = refl;
        within = λ h. h;
        own = refl;
        whole = refl;
        refused = λ r. refl;
      };
    }

pub fine_replies : (c : Description) (u w : Unix) (p q : Process) (first second : ℕ) (bytes : List ℕ) → Others u.processes (home_of p.pid) w.processes → w.limit ≡ u.limit → (IsWithin u → IsWithin w) → q.pid ≡ p.pid → Fine c u p (replies c w q (Value first second bytes))
fine_replies c u w p q first second bytes others limit within own =
    record {
      does = record {
        between = w;
        caller = replied c q (Value first second bytes);
        others = others;
        limit = limit;
        within = within;
        own = own;
        whole = refl;
        refused = λ r. absurd r;
      };
    }

-- the caller is put as it is
pub fine_put : (c : Description) (u : Unix) (p q : Process) (first second : ℕ) (bytes : List ℕ) → q.pid ≡ p.pid → Fine c u p (Answered (Value first second bytes) (with_process q u))
fine_put c u p q first second bytes own =
    record {
      does = record {
        between = u;
        caller = q;
        others = Nobody refl;
        limit = refl;
        within = λ h. h;
        own = own;
        whole = refl;
        refused = λ r. absurd r;
      };
    }

-- only the caller changes
pub fine_own : (c : Description) (u : Unix) (p q : Process) (first second : ℕ) (bytes : List ℕ) → q.pid ≡ p.pid → Fine c u p (replies c u q (Value first second bytes))
fine_own c u p q first second bytes own = fine_replies c u u p q first second bytes (Nobody refl) refl (λ h. h) own

pub fine_waits : (c : Description) (u : Unix) (p : Process) → Fine c u p Waits
fine_waits c u p = record { does = tt }

pub fine_goes : (c : Description) (u : Unix) (p : Process) (place : ℕ) → Fine c u p (GoesTo place)
fine_goes c u p place = record { does = tt }

pub fine_if : (c : Description) (u : Unix) (p : Process) (b : Bool) (x y : Outcome) → (b ≡ true → Fine c u p x) → (b ≡ false → Fine c u p y) → Fine c u p (cond b x y)
fine_if c u p true x y yes_so no_so = yes_so refl
fine_if c u p false x y yes_so no_so = no_so refl

pub fine_unless : (c : Description) (u : Unix) (p : Process) (refusal : Option Errno) (x : Outcome) → Fine c u p x → Fine c u p (unless_refused c u p refusal x)
fine_unless c u p (Some e) x h = fine_refuses c u p e
fine_unless c u p None x h = h
