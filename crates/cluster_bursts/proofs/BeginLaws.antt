-- A burst that begins would count, and does what its program says.
use Rattle.std.proofs.Common.{◌≡◌, ℕ, ◌<◌, ◌==◌, Bool, true, false, ◌&&◌, ◌||◌, not, cond, List, [], ◌∷◌, ◌++◌, zero, suc, Option, Some, None, refl, sym, ap, ap₂, subst, ◌∙◌, length, nat_eq, nat_lt, slice_get, arith}
use Rattle.std.proofs.lemmas.Bool.{and_parts, eq-eqb}
use Rattle.std.specs.List.{find, list_any}
use Rattle.std.specs.Option.{is_some, option_eq, option_or}
use Rattle.std.specs.Cmp.Lexicographic.{pointwise}
use Rattle.sprite_ids.proofs.ListLaws.{some_is}
use Rattle.process_machine.specs.Machine.{Machine}
use Rattle.process_machine.specs.declared.Program.{Program}
use Rattle.process_machine.specs.Runs.{ahead}
use Rattle.unix_calls.specs.declared.Description.{Description}
use Rattle.unix_calls.specs.Answers.{program_at}
use Rattle.cluster_kernels.specs.declared.State.{State}
use Rattle.cluster_kernels.specs.States.{count_at, image_at, is_ready_at, pids_at}
use Rattle.cluster_bursts.specs.declared.job.Burst.{Burst}
use Rattle.cluster_bursts.specs.declared.job.Job.{Job}
use Rattle.cluster_bursts.specs.Bursts.{Did, IsDone, begun_by, counts, is_as_it_was, is_image, is_out, is_runnable, job_at, job_by, job_over, job_with, has_job_at, is_next, next_at, same_image}

-- one is found exactly where there is one
found_first : (p : ℕ → Bool) (x : ℕ) (xs : List ℕ) (b : Bool) → is_some (find p xs) ≡ list_any p xs → is_some (cond b (Some x) (find p xs)) ≡ (b || list_any p xs)
found_first p x xs true rest = refl
found_first p x xs false rest = rest

found_any : (p : ℕ → Bool) (xs : List ℕ) → is_some (find p xs) ≡ list_any p xs
found_any p [] = refl
found_any p (x ∷ xs) = found_first p x xs (p x) (found_any p xs)

-- and passes
passes_first : (p : ℕ → Bool) (y : ℕ) (rest : Option ℕ) (b : Bool) (x : ℕ) → p y ≡ b → (rest ≡ Some x → p x ≡ true) → cond b (Some y) rest ≡ Some x → p x ≡ true
passes_first p y rest true x holds later is = subst (λ z. p z ≡ true) (some_is y x is) holds
passes_first p y rest false x holds later is = later is

found_passes : (p : ℕ → Bool) (xs : List ℕ) (x : ℕ) → find p xs ≡ Some x → p x ≡ true
found_passes p [] x is = absurd (cc)
found_passes p (y ∷ ys) x is = passes_first p y (find p ys) (p y) x refl (λ later. found_passes p ys x later) is

-- where one that passes two tests is found, so is one that passes the second
any_second : (a b : Bool) (p q : ℕ → Bool) (xs : List ℕ) → (list_any (λ x. p x && q x) xs ≡ true → list_any q xs ≡ true) → ((a && b) || list_any (λ x. p x && q x) xs) ≡ true → (b || list_any q xs) ≡ true
any_second a true p q xs rest is = refl
any_second true false p q xs rest is = rest is
any_second false false p q xs rest is = rest is

both_any : (p q : ℕ → Bool) (xs : List ℕ) → list_any (λ x. p x && q x) xs ≡ true → list_any q xs ≡ true
both_any p q [] is = is
both_any p q (x ∷ xs) is = any_second (p x) (q x) p q xs (both_any p q xs) is

either_there : (p q : ℕ → Bool) (xs : List ℕ) (o : Option ℕ) → find (λ x. p x && q x) xs ≡ o → is_some (option_or o (find q xs)) ≡ list_any q xs
either_there p q xs None is = found_any q xs
either_there p q xs (Some x) is = sym (both_any p q xs (sym (found_any (λ x. p x && q x) xs) ∙ ap is_some is))

-- there is a next process exactly where one can run
next_there : (kernel : ℕ) (s : State) → is_some (next_at kernel s) ≡ has_job_at kernel s
next_there kernel s = either_there (λ pid. nat_lt (count_at s.last kernel) pid) (is_runnable kernel s) (pids_at kernel s) (find (is_next kernel s (count_at s.last kernel)) (pids_at kernel s)) refl

-- what a look for the next process in their list says of that
pub next_says : (kernel : ℕ) (s : State) (o : Option ℕ) (pids : List ℕ) → pids ≡ pids_at kernel s → o ≡ option_or (find (is_next kernel s (count_at s.last kernel)) pids) (find (is_runnable kernel s) pids) → is_some o ≡ has_job_at kernel s
next_says kernel s o pids same is = ap is_some is ∙ ap (λ (xs : List ℕ). is_some (option_or (find (is_next kernel s (count_at s.last kernel)) xs) (find (is_runnable kernel s) xs))) same ∙ next_there kernel s

-- the next process can run
runs_by : (kernel pid : ℕ) (s : State) (o : Option ℕ) → find (is_next kernel s (count_at s.last kernel)) (pids_at kernel s) ≡ o → option_or o (find (is_runnable kernel s) (pids_at kernel s)) ≡ Some pid → is_runnable kernel s pid ≡ true
runs_by kernel pid s None first is = found_passes (is_runnable kernel s) (pids_at kernel s) pid is
runs_by kernel pid s (Some other) first is = (and_parts (nat_lt (count_at s.last kernel) pid) (is_runnable kernel s pid) (found_passes (is_next kernel s (count_at s.last kernel)) (pids_at kernel s) pid (first ∙ is))).1

next_runs : (kernel pid : ℕ) (s : State) → next_at kernel s ≡ Some pid → is_runnable kernel s pid ≡ true
next_runs kernel pid s is = runs_by kernel pid s (find (is_next kernel s (count_at s.last kernel)) (pids_at kernel s)) refl is

-- a number is the same as itself, a list of numbers and an image
same_number : (n : ℕ) → nat_eq n n ≡ true
same_number n = eq-eqb n n refl

same_numbers : (xs : List ℕ) → pointwise nat_eq xs xs ≡ true
same_numbers [] = refl
same_numbers (x ∷ xs) = ap₂ (λ one rest. one && rest) (same_number x) (same_numbers xs)

same_page : (page : Option (List ℕ)) → option_eq (pointwise nat_eq) page page ≡ true
same_page None = refl
same_page (Some bytes) = same_numbers bytes

same_pages : (pages : List (Option (List ℕ))) → pointwise (option_eq (pointwise nat_eq)) pages pages ≡ true
same_pages [] = refl
same_pages (page ∷ pages) = ap₂ (λ one rest. one && rest) (same_page page) (same_pages pages)

same_as_itself : (image : Machine) → same_image image image ≡ true
same_as_itself image = ap₂ (λ one rest. one && rest) (same_number image.number) (ap₂ (λ one rest. one && rest) (same_number image.counter) (ap₂ (λ one rest. one && rest) (same_numbers image.registers) (same_pages image.pages)))

-- a burst that was put last is out
put_is_out : (kernel pid : ℕ) (rows : List (ℕ × ℕ)) → list_any (is_out kernel pid) (rows ++ (kernel, pid) ∷ []) ≡ true
put_is_out kernel pid [] = ap₂ (λ one other. (one && other) || false) (same_number kernel) (same_number pid)
put_is_out kernel pid (row ∷ rows) = ap (λ rest. is_out kernel pid row || rest) (put_is_out kernel pid rows) ∙ or_true (is_out kernel pid row)
  where
    or_true : (b : Bool) → (b || true) ≡ true
    or_true true = refl
    or_true false = refl

-- the parts of a job: its process can run and has the image that it begins with, which is one of the program
record Begins (c : Description) (kernel : ℕ) (job : Job) (s : State) : Type 0 where
  runs : is_runnable kernel s job.pid ≡ true
  image_is : image_at kernel job.pid s ≡ Some job.from
  program_is : program_at c.programs job.from.number ≡ Some job.program
  same : job.to ≡ job.from

begins_over : (c : Description) (kernel pid : ℕ) (image : Machine) (o : Option Program) (job : Job) (s : State) → is_runnable kernel s pid ≡ true → image_at kernel pid s ≡ Some image → program_at c.programs image.number ≡ o → job_over pid image o ≡ Some job → Begins c kernel job s
begins_over c kernel pid image None job s runs has found is = absurd (cc)
begins_over c kernel pid image (Some program) job s runs has found is = subst (λ job. Begins c kernel job s) (some_is (record { pid = pid; program = program; from = image; to = image }) job is) (record { runs = runs; image_is = has; program_is = found; same = refl })

begins_with : (c : Description) (kernel pid : ℕ) (o : Option Machine) (job : Job) (s : State) → is_runnable kernel s pid ≡ true → image_at kernel pid s ≡ o → job_with c pid o ≡ Some job → Begins c kernel job s
begins_with c kernel pid None job s runs has is = absurd (cc)
begins_with c kernel pid (Some image) job s runs has is = begins_over c kernel pid image (program_at c.programs image.number) job s runs has refl is

begins_by : (c : Description) (kernel : ℕ) (o : Option ℕ) (job : Job) (s : State) → next_at kernel s ≡ o → job_by c kernel o s ≡ Some job → Begins c kernel job s
begins_by c kernel None job s next is = absurd (cc)
begins_by c kernel (Some pid) job s next is = begins_with c kernel pid (image_at kernel pid s) job s (next_runs kernel pid s next) refl is

begins_at : (c : Description) (kernel : ℕ) (job : Job) (s : State) → job_at c kernel s ≡ Some job → Begins c kernel job s
begins_at c kernel job s is = begins_by c kernel (next_at kernel s) job s refl is

-- the job of the kernel that was begun, done, would count: its process is what it was
counts_so : (c : Description) (kernel : ℕ) (job : Job) (b : Burst) (s : State) → Begins c kernel job s → b.pid ≡ job.pid → b.from ≡ job.from → counts kernel b (begun_by kernel (Some job) s) ≡ true
counts_so c kernel job burst s begins pid from =
    ap₂ (λ (pid : ℕ) (from : Machine). list_any (is_out kernel pid) (s.out ++ (kernel, job.pid) ∷ []) && (is_image (image_at kernel pid s) from && is_ready_at kernel pid s)) pid from
    ∙ ap₂ (λ one rest. one && rest) (put_is_out kernel job.pid s.out) (ap₂ (λ one rest. one && rest) (ap (λ (o : Option Machine). is_image o job.from) begins.image_is ∙ same_as_itself job.from) (and_parts (is_ready_at kernel job.pid s) (not (list_any (is_out kernel job.pid) s.out)) begins.runs).0)

pub counts_begun : (c : Description) (kernel : ℕ) (job : Job) (b : Burst) (s : State) → job_at c kernel s ≡ Some job → IsDone job b → counts kernel b (begun_by kernel (Some job) s) ≡ true
counts_begun c kernel job burst s is done = counts_so c kernel job burst s (begins_at c kernel job s is) done.pid done.from

-- and did its instructions of the image's program
pub did_begun : (c : Description) (kernel : ℕ) (job : Job) (b : Burst) (s : State) → job_at c kernel s ≡ Some job → IsDone job b → Did c b
did_begun c kernel job burst s is done = (let begins = begins_at c kernel job s is in
    record {
      program = ap (λ (image : Machine). program_at c.programs image.number) done.from ∙ begins.program_is ∙ ap Some (sym done.program);
      moved = ap₂ (λ (program : Program) (image : Machine). ahead program image burst.count) done.program (done.from ∙ sym begins.same) ∙ done.moved;
      ends = done.ends;
    })
