-- What a client that is driven does, and what is printed of it, event by event.
use Rattle.std.proofs.Common.{◌≡◌, List, [], ◌∷◌, ◌++◌, if◌then◌else◌, Option, Some, None, IfSome, length, arith, refl, sym, ap, subst, ◌∙◌, append-nil, append_assoc}
use Rattle.std.specs.Option.{is_none, unwrap_or}
use Rattle.std.specs.Io.KnownBytes.{Appends}
use Rattle.std.proofs.lemmas.List.Elements.{All-nil, All-cons, All-append}
use Rattle.tungstenite.proofs.SocketLemmas.{appends-chain}
use Rattle.pres_wire.specs.declared.down.Down.{Down}
use Rattle.pres_client_state.specs.declared.notice.Notice.{Notice}
use Rattle.pres_client.specs.declared.call.Call.{Call}
use Rattle.pres_client.specs.declared.fault.ClientFault.{ClientFault}
use Rattle.pres_client.specs.declared.fault.ClientFault.TheVariants.{Memory}
use Rattle.pres_client.specs.Calls.{Does, Refuses, refusal, after_call}
use Rattle.pres_client.specs.Clients.{ClientState}
use Rattle.pres_client.specs.Faults.{number_of}
use Rattle.pres_client.specs.ReceivedMessages.{after_receive}
use Rattle.pres_client.specs.Steps.{ClientStep, calls, receives, hands_out_sends, hands_out_notices, after, run, IsMessage, IsClientStep, AreMessages}
use Rattle.pres_client_connection.specs.DrivenClients.{DriveEvent, does, refuses, Drives, IsSettled, AsksSettled, AsksMoreSettled, steps_of, asked_in, asked_of, printed, printed_of}
use Rattle.pres_script.specs.NoticeTexts.{Text, line_of, notice_text, notice_lines, refusal_text, refusal_line}
use Rattle.pres_script.specs.declared.line.Line.{Line}
use Rattle.pres_script.specs.declared.line.Line.TheVariants as line

run_append : (c : ClientState) (xs ys : List ClientStep) → run c (xs ++ ys) ≡ run (run c xs) ys
run_append c [] ys = refl
run_append c (s ∷ xs) ys = run_append (after c s) xs ys

steps_append : (xs ys : List DriveEvent) → steps_of (xs ++ ys) ≡ steps_of xs ++ steps_of ys
steps_append [] ys = refl
steps_append (does s ∷ xs) ys = ap (λ ss. s ∷ ss) (steps_append xs ys)
steps_append (refuses ∷ xs) ys = steps_append xs ys

asked_append : (xs ys : List DriveEvent) → asked_of (xs ++ ys) ≡ asked_of xs ++ asked_of ys
asked_append [] ys = refl
asked_append (does (calls k) ∷ xs) ys = ap (λ ks. Some k ∷ ks) (asked_append xs ys)
asked_append (does (receives m) ∷ xs) ys = asked_append xs ys
asked_append (does hands_out_sends ∷ xs) ys = asked_append xs ys
asked_append (does hands_out_notices ∷ xs) ys = asked_append xs ys
asked_append (refuses ∷ xs) ys = ap (λ ks. None ∷ ks) (asked_append xs ys)

printed_append : (c : ClientState) (xs ys : List DriveEvent) → printed_of c (xs ++ ys) ≡ printed_of c xs ++ printed_of (run c (steps_of xs)) ys
printed_append c [] ys = refl
printed_append c (does s ∷ xs) ys = ap (λ t. printed c s ++ t) (printed_append (after c s) xs ys) ∙ sym (append_assoc (printed c s) (printed_of (after c s) xs) (printed_of (run (after c s) (steps_of xs)) ys))
printed_append c (refuses ∷ xs) ys = ap (λ t. line_of (refusal_text 5) ++ t) (printed_append c xs ys) ∙ sym (append_assoc (line_of (refusal_text 5)) (printed_of c xs) (printed_of (run c (steps_of xs)) ys))

-- where nothing is asked for, nothing has to wait
unasked : (c : ClientState) (xs : List DriveEvent) → asked_of xs ≡ [] → AsksSettled c xs
unasked c [] none = tt
unasked c (does (calls k) ∷ xs) none = absurd (omega (arith, ap length none))
unasked c (does (receives m) ∷ xs) none = unasked (after c (receives m)) xs none
unasked c (does hands_out_sends ∷ xs) none = unasked (after c hands_out_sends) xs none
unasked c (does hands_out_notices ∷ xs) none = unasked (after c hands_out_notices) xs none
unasked c (refuses ∷ xs) none = absurd (omega (arith, ap length none))

settled_first : (c : ClientState) (xs : List DriveEvent) → IsSettled c → AsksMoreSettled c xs → AsksSettled c xs
settled_first c [] settled h = tt
settled_first c (does (calls k) ∷ xs) settled h = (settled, h)
settled_first c (does (receives m) ∷ xs) settled h = h
settled_first c (does hands_out_sends ∷ xs) settled h = h
settled_first c (does hands_out_notices ∷ xs) settled h = h
settled_first c (refuses ∷ xs) settled h = (settled, h)

settled_append : (c : ClientState) (xs ys : List DriveEvent) → AsksSettled c xs → AsksSettled (run c (steps_of xs)) ys → AsksSettled c (xs ++ ys)
settled_append c [] ys h k = k
settled_append c (does (calls m) ∷ xs) ys h k = (h.0, settled_append (after c (calls m)) xs ys h.1 k)
settled_append c (does (receives m) ∷ xs) ys h k = settled_append (after c (receives m)) xs ys h k
settled_append c (does hands_out_sends ∷ xs) ys h k = settled_append (after c hands_out_sends) xs ys h k
settled_append c (does hands_out_notices ∷ xs) ys h k = settled_append (after c hands_out_notices) xs ys h k
settled_append c (refuses ∷ xs) ys h k = (h.0, settled_append c xs ys h.1 k)

more_settled_append : (c : ClientState) (xs ys : List DriveEvent) → AsksMoreSettled c xs → AsksMoreSettled (run c (steps_of xs)) ys → AsksSettled (run c (steps_of xs)) ys → AsksMoreSettled c (xs ++ ys)
more_settled_append c [] ys h first k = first
more_settled_append c (does s ∷ xs) ys h first k = settled_append (after c s) xs ys h k
more_settled_append c (refuses ∷ xs) ys h first k = settled_append c xs ys h k

-- an output that nothing was written to
pub unwritten : (old : Option Text) → Appends old old []
unwritten None = tt
unwritten (Some xs) = sym (append-nil xs)

no_steps : AreMessages []
no_steps = All-nil IsClientStep

one_step : (s : ClientStep) → IsClientStep s → AreMessages (s ∷ [])
one_step s h = All-cons IsClientStep s [] h no_steps

-- nothing happened
pub nothing_done : (c : ClientState) (old : Option Text) → Drives c [] c old old
nothing_done c old = record { events = []; came = refl; asked_them = refl; heard = no_steps; waited = tt; printed_them = unwritten old }

-- one after the other, where the second asks only of a client that is settled
one_then : (a b c : ClientState) (xs ys : List (Option Call)) (old mid new : Option Text) (h : Drives a xs b old mid) (k : Drives b ys c mid new) → AsksSettled b k.events → Drives a (xs ++ ys) c old new
one_then a b c xs ys old mid new h k settled = record {
  events = h.events ++ k.events;
  came = ap (run a) (steps_append h.events k.events) ∙ run_append a (steps_of h.events) (steps_of k.events) ∙ ap (λ s. run s (steps_of k.events)) h.came ∙ k.came;
  asked_them = asked_append h.events k.events ∙ ap (λ z. z ++ asked_of k.events) h.asked_them ∙ ap (λ z. xs ++ z) k.asked_them;
  heard = subst AreMessages (sym (steps_append h.events k.events)) (All-append IsClientStep (steps_of h.events) (steps_of k.events) h.heard k.heard);
  waited = more_settled_append a h.events k.events h.waited (subst (λ s. AsksMoreSettled s k.events) (sym h.came) k.waited) (subst (λ s. AsksSettled s k.events) (sym h.came) settled);
  printed_them = subst (Appends old new) (ap (λ s. printed_of a h.events ++ printed_of s k.events) (sym h.came) ∙ sym (printed_append a h.events k.events)) (appends-chain old mid new (printed_of a h.events) (printed_of b k.events) h.printed_them k.printed_them);
}

-- one, and then what is asked of a settled client
pub drives_then : (a b c : ClientState) (xs ys : List (Option Call)) (old mid new : Option Text) → Drives a xs b old mid → IsSettled b → Drives b ys c mid new → Drives a (xs ++ ys) c old new
drives_then a b c xs ys old mid new h settled k = one_then a b c xs ys old mid new h k (settled_first b k.events settled k.waited)

-- one, and then what nothing is asked for
pub goes_on : (a b c : ClientState) (xs : List (Option Call)) (old mid new : Option Text) → Drives a xs b old mid → Drives b [] c mid new → Drives a xs c old new
goes_on a b c xs old mid new h k = subst (λ asked. Drives a asked c old new) (append-nil xs) (one_then a b c xs [] old mid new h k (unasked b k.events k.asked_them))

pub received : (c d : ClientState) (m : Down) (old : Option Text) → IsMessage m → d ≡ after_receive c m → Drives c [] d old old
received c d m old message is = record { events = does (receives m) ∷ []; came = sym is; asked_them = refl; heard = one_step (receives m) message; waited = tt; printed_them = unwritten old }

abbrev without_notices : ClientState → ClientState
without_notices c = record c { notices = [] }

pub handed_out : (c d e : ClientState) (ns : List Notice) (old new : Option Text) → d ≡ record c { sends = [] } → ns ≡ d.notices → e ≡ record d { notices = [] } → Appends old new (notice_lines ns) → Drives c [] e old new
handed_out c d e ns old new sent given left told = record {
  events = does hands_out_sends ∷ does hands_out_notices ∷ [];
  came = ap without_notices (sym sent) ∙ sym left;
  asked_them = refl;
  heard = All-cons IsClientStep hands_out_sends (hands_out_notices ∷ []) tt (one_step hands_out_notices tt);
  waited = tt;
  printed_them = subst (Appends old new) (ap notice_lines (given ∙ ap (λ s. s.notices) sent) ∙ sym (append-nil (notice_lines c.notices))) told;
}

-- a call that is made
by_refusal : (c d : ClientState) (k : Call) (r : Option ClientFault) → r ≡ None → d ≡ after_call c k → (if is_none r then after_call c k else c) ≡ d
by_refusal c d k (Some e) unlike is = absurd (subst (λ r. IfSome r (λ _. ⊥)) (sym unlike) tt)
by_refusal c d k None _ is = sym is

pub called : (c d : ClientState) (k : Call) (old : Option Text) → Does c k d → Drives c (Some k ∷ []) d old old
called c d k old h = record {
  events = does (calls k) ∷ [];
  came = by_refusal c d k (refusal c k) h.0 h.1;
  asked_them = refl;
  heard = one_step (calls k) tt;
  waited = tt;
  printed_them = subst (λ r. Appends old old (refusal_line r ++ [])) (sym h.0) (unwritten old);
}

-- a call that is refused, apart from lack of memory
is_refusal : (r : Option ClientFault) (e : ClientFault) → e ≡ unwrap_or r Memory → (e ≡ Memory → ⊥) → r ≡ Some e
is_refusal (Some f) e why other = ap Some (sym why)
is_refusal None e why other = absurd (other why)

pub refused : (c d : ClientState) (k : Call) (e : ClientFault) (old new : Option Text) → Refuses c k d e → (e ≡ Memory → ⊥) → Appends old new (line_of (refusal_text (number_of e))) → Drives c (Some k ∷ []) d old new
refused c d k e old new h other told = let why = is_refusal (refusal c k) e h.0 other in record {
  events = does (calls k) ∷ [];
  came = ap (λ r. if is_none r then after_call c k else c) why ∙ sym h.1;
  asked_them = refl;
  heard = one_step (calls k) tt;
  waited = tt;
  printed_them = subst (λ r. Appends old new (refusal_line r ++ [])) (sym why) (subst (Appends old new) (sym (append-nil (line_of (refusal_text (number_of e))))) told);
}

-- a line that is refused
pub passed_over : (c : ClientState) (old new : Option Text) → Appends old new (line_of (refusal_text 5)) → Drives c (None ∷ []) c old new
passed_over c old new told = record { events = refuses ∷ []; came = refl; asked_them = refl; heard = no_steps; waited = tt; printed_them = subst (Appends old new) (sym (append-nil (line_of (refusal_text 5)))) told }

-- what a line asks for, and then the lines after it
asked_next : (l : Line) (lines : List Line) → asked_in (l ∷ []) ++ asked_in lines ≡ asked_in (l ∷ lines)
asked_next (line.Call k) lines = refl
asked_next line.Refused lines = refl
asked_next (line.Wait n) lines = refl

pub asked_more : (asked : List (Option Call)) (l : Line) (rest lines : List Line) → rest ≡ l ∷ lines → (asked ++ asked_in (l ∷ [])) ++ asked_in lines ≡ asked ++ asked_in rest
asked_more asked l rest lines is = append_assoc asked (asked_in (l ∷ [])) (asked_in lines) ∙ ap (λ z. asked ++ z) (asked_next l lines ∙ ap asked_in (sym is))

pub asked_done : (asked all : List (Option Call)) (rest : List Line) → length rest ≡ 0 → asked ++ asked_in rest ≡ all → asked ≡ all
asked_done asked all [] none is = sym (append-nil asked) ∙ is
asked_done asked all (l ∷ rest) none is = absurd (omega (arith, none))

-- the notices' lines so far, and one more
pub lines_more : (text : Text) (n : Notice) (rest notices : List Notice) → rest ≡ n ∷ notices → (text ++ line_of (notice_text n)) ++ notice_lines notices ≡ text ++ notice_lines rest
lines_more text n rest notices is = append_assoc text (line_of (notice_text n)) (notice_lines notices) ∙ ap (λ ns. text ++ notice_lines ns) (sym is)

pub lines_done : (text all : Text) (rest : List Notice) → length rest ≡ 0 → text ++ notice_lines rest ≡ all → text ≡ all
lines_done text all [] none is = sym (append-nil text) ∙ is
lines_done text all (n ∷ rest) none is = absurd (omega (arith, none))
