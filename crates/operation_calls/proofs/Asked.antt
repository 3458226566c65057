-- What each operation that waits for a remote call of its own asked before or asks now, and each write-back: what a step adds to that.
use Rattle.std.proofs.Common.{arith, ◌≡◌, ◌⊎◌, inl, inr, ℕ, ◌+◌, true, List, [], ◌∷◌, ◌++◌, length, length-append, slice_get, Some, refl, sym, ◌∙◌, subst}
use Rattle.std.specs.List.{AllByRecursion}
use Rattle.sprite_ids.specs.declared.TxNo.{TxNo}
use Rattle.sprite_ids.proofs.ListLaws.{each_push, each_weaken, some_is}
use Rattle.kernel_steps.specs.declared.Sending.{Sending}
use Rattle.kernel_steps.specs.Rows.{is_under}
use Rattle.client_file_tables.specs.declared.client_files.ClientFiles.{ClientFiles}
use Rattle.client_file_tables.specs.declared.pending.Pending.{Pending}
use Rattle.client_file_tables.specs.declared.works.WriteBackOut.{WriteBackOut}
use Rattle.client_file_tables.specs.Rows.{less_call, less_of, same_call, same_pid}
use Rattle.client_facts.specs.FileFacts.{own_call}
use Rattle.client_walks.proofs.RowLaws.{got_before}
use Rattle.file_facts.proofs.BookLaws.{each_less, found_each}
use Rattle.operation_calls.specs.Requests.{GoesTo, IsSent, Wanted, wanted_of, write_back_wanted}
use Rattle.operation_calls.proofs.Books.{Bears, Book, book_of, expected, kept, put_out, said}

-- ---- lists

got_last : {X : Type 0} (xs : List X) (x : X) → slice_get (xs ++ x ∷ []) (length xs) ≡ Some x
got_last [] x = refl
got_last (y ∷ xs) x = got_last xs x

more_length : {X : Type 0} (first n : ℕ) (xs : List X) (x : X) → n ≡ first + length xs → n + 1 ≡ first + length (xs ++ x ∷ [])
more_length first n xs x h = (let many : length (xs ++ x ∷ []) ≡ length xs + 1 = length-append xs (x ∷ []) in omega (arith, h, many))

module _ (Old : TxNo → ℕ × Pending → Type 0) (OldBack : TxNo × WriteBackOut → Type 0) (first : ℕ) where
  -- an operation's own call asked so before, or is one of these; and so a write-back
  abbrev pub RowSo : List Sending → ℕ × Pending → Type 0
  RowSo sends row = (tx : TxNo) → own_call row.1 ≡ Some tx → Old tx row ⊎ IsSent first sends tx (wanted_of row.1)

  abbrev pub BackSo : List Sending → TxNo × WriteBackOut → Type 0
  BackSo sends back = OldBack back ⊎ IsSent first sends back.0 (write_back_wanted back.1)

  -- so are all, and the next number is the first one and so many
  pub record Sound (b : Book) : Type 0 where
    pub numbered : b.next.0 ≡ first + length b.sends
    pub rows : AllByRecursion (RowSo b.sends) b.rows
    pub backs : AllByRecursion (BackSo b.sends) b.backs

  abbrev pub Holds : ClientFiles → Type 0
  Holds s = Sound (book_of s)

  -- the calls that are kept don't matter
  heard_same : (b : Book) (asked : List (TxNo × ℕ)) → Sound b → Sound (record b { asked = asked })
  heard_same b asked s = record { numbered = s.numbered; rows = s.rows; backs = s.backs }

  sent_more : (sends : List Sending) (sending : Sending) (tx : TxNo) (wanted : Wanted) → IsSent first sends tx wanted → IsSent first (sends ++ sending ∷ []) tx wanted
  sent_more sends sending tx wanted is = record { at = is.at; sending = is.sending; there = got_before sends (sending ∷ []) is.at is.sending is.there; number = is.number; asks = is.asks; tries = is.tries; to = is.to }

  row_more : (sends : List Sending) (sending : Sending) (row : ℕ × Pending) → RowSo sends row → RowSo (sends ++ sending ∷ []) row
  row_more sends sending row so tx own = by (so tx own)
    where
      by : Old tx row ⊎ IsSent first sends tx (wanted_of row.1) → Old tx row ⊎ IsSent first (sends ++ sending ∷ []) tx (wanted_of row.1)
      by (inl old) = inl old
      by (inr now) = inr (sent_more sends sending tx (wanted_of row.1) now)

  back_more : (sends : List Sending) (sending : Sending) (back : TxNo × WriteBackOut) → BackSo sends back → BackSo (sends ++ sending ∷ []) back
  back_more sends sending back (inl old) = inl old
  back_more sends sending back (inr now) = inr (sent_more sends sending back.0 (write_back_wanted back.1) now)

  says : (sending : Sending) (b : Book) → Sound b → Sound (said sending b)
  says sending b s = record {
    numbered = more_length first b.next.0 b.sends sending s.numbered;
    rows = each_weaken (RowSo b.sends) (RowSo (b.sends ++ sending ∷ [])) b.rows (row_more b.sends sending) s.rows;
    backs = each_weaken (BackSo b.sends) (BackSo (b.sends ++ sending ∷ [])) b.backs (back_more b.sends sending) s.backs;
  }

  -- the call that is said last
  last_sent : (sending : Sending) (b : Book) (wanted : Wanted) → wanted.such sending.body ≡ true → sending.tries ≡ wanted.tries → GoesTo wanted.to sending.to → Sound b → IsSent first (b.sends ++ sending ∷ []) b.next wanted
  last_sent sending b wanted asks tries to s = record { at = length b.sends; sending = sending; there = got_last b.sends sending; number = s.numbered; asks = asks; tries = tries; to = to }

  keeps : (pid : ℕ) (operation : Pending) (b : Book) → RowSo b.sends (pid, operation) → Sound b → Sound (kept pid operation b)
  keeps pid operation b so s = record { numbered = s.numbered; rows = each_push (RowSo b.sends) b.rows (pid, operation) s.rows so; backs = s.backs }

  -- one that waits for the call that was said last
  waits_last : (sending : Sending) (b : Book) (pid : ℕ) (operation : Pending) → own_call operation ≡ Some b.next → IsSent first (b.sends ++ sending ∷ []) b.next (wanted_of operation) → RowSo (b.sends ++ sending ∷ []) (pid, operation)
  waits_last sending b pid operation own sent tx e = inr (subst (λ (t : TxNo). IsSent first (b.sends ++ sending ∷ []) t (wanted_of operation)) (some_is b.next tx (sym own ∙ e)) sent)

  asks_for : (sending : Sending) (pid : ℕ) (operation : Pending) (b : Book) → own_call operation ≡ Some b.next → (wanted_of operation).such sending.body ≡ true → sending.tries ≡ (wanted_of operation).tries → GoesTo (wanted_of operation).to sending.to → Sound b → Sound (kept pid operation (expected b.next pid (said sending b)))
  asks_for sending pid operation b own asks tries to s =
      keeps pid operation (expected b.next pid (said sending b)) (waits_last sending b pid operation own (last_sent sending b (wanted_of operation) asks tries to s)) (heard_same (said sending b) (b.asked ++ (b.next, pid) ∷ []) (says sending b s))

  -- a write-back goes
  goes_back : (sending : Sending) (back : WriteBackOut) (b : Book) → (write_back_wanted back).such sending.body ≡ true → sending.tries ≡ (write_back_wanted back).tries → GoesTo (write_back_wanted back).to sending.to → Sound b → Sound (put_out b.next back (said sending b))
  goes_back sending back b asks tries to s =
      let more : Sound (said sending b) = says sending b s in
      record { numbered = more.numbered; rows = more.rows; backs = each_push (BackSo (b.sends ++ sending ∷ [])) b.backs (b.next, back) more.backs (inr (last_sent sending b (write_back_wanted back) asks tries to s)) }

  -- and is a sync's own
  goes_own : (sending : Sending) (back : WriteBackOut) (pid : ℕ) (operation : Pending) (b : Book) → own_call operation ≡ Some b.next → (wanted_of operation).such sending.body ≡ true → sending.tries ≡ (wanted_of operation).tries → GoesTo (wanted_of operation).to sending.to
      → (write_back_wanted back).such sending.body ≡ true → sending.tries ≡ (write_back_wanted back).tries → GoesTo (write_back_wanted back).to sending.to → Sound b → Sound (kept pid operation (expected b.next pid (put_out b.next back (said sending b))))
  goes_own sending back pid operation b own asks tries to is lasts goes s =
      keeps pid operation (expected b.next pid (put_out b.next back (said sending b))) (waits_last sending b pid operation own (last_sent sending b (wanted_of operation) asks tries to s)) (heard_same (put_out b.next back (said sending b)) (b.asked ++ (b.next, pid) ∷ []) (goes_back sending back b is lasts goes s))

  -- ---- what goes

  left : (pid : ℕ) (b : Book) → Sound b → Sound (record b { rows = less_of pid b.rows })
  left pid b s = record { numbered = s.numbered; rows = each_less (RowSo b.sends) (is_under same_pid pid) b.rows s.rows; backs = s.backs }

  back_in : (tx : TxNo) (b : Book) → Sound b → Sound (record b { backs = less_call tx b.backs })
  back_in tx b s = record { numbered = s.numbered; rows = s.rows; backs = each_less (BackSo b.sends) (is_under same_call tx) b.backs s.backs }

  pub sound_bears : Bears Sound RowSo
  sound_bears = record {
    says = says;
    keeps = keeps;
    free = λ pid operation sends none tx own. absurd (let both = sym none ∙ own in cc);
    asks_for = asks_for;
    goes_back = goes_back;
    goes_own = goes_own;
    left = left;
    found = λ pid operation b e s. found_each (RowSo b.sends) pid b.rows operation s.rows e;
    hears = λ tx b s. heard_same b (less_call tx b.asked) s;
    back_in = back_in;
  }
