-- What each step of a link and its site does to their counts.
use Rattle.std.proofs.Common.{◌≡◌, ℕ, ◌+◌, Bool, true, false, List, [], ◌∷◌, ◌++◌, drop, refl, ap, sym, ◌∙◌, None, arith, length-append, append_assoc, leb-true, leb-false, if◌then◌else◌}
use Rattle.jup_site.specs.Prelude.{answer_after, Ghosts, Msg, Link, IsCount, generated, accepts_count, after_ack, answered, owes, next_message, Comes, Operations, AreLawful, Down, DownOp, DownAck, DownPong, SiteBadOp as BadOp, test, LinkState, link_acked, link_ponged, link_fetched, link_sent, link_heard, end_after, running_test, heard_tests, deliver_tests, fits_shown, deliver_fault}
use Rattle.jup_link.specs.Laws.Steps as link_laws
use Rattle.jup_star.proofs.FaultTests.{all_hold}
use Rattle.jup_site.specs.Sites as sites
use Rattle.jup_site.specs.Turns.{told_count, Counts}

-- counts received one list after another
pub told_count-append : {Op : Type 0} → (n : ℕ) (ds es : List (Down Op)) → told_count n (ds ++ es) ≡ told_count (told_count n ds) es
told_count-append n [] es = refl
told_count-append n (DownOp m ∷ ds) es = told_count-append m.heard ds es
told_count-append n (DownAck k ∷ ds) es = told_count-append k ds es
told_count-append n (DownPong k ∷ ds) es = told_count-append n ds es

-- one more message at the end of an outbox
pub told_last : {Op : Type 0} → (n : ℕ) (ds os es : List (Down Op)) → told_count n (ds ++ (os ++ es)) ≡ told_count (told_count n (ds ++ os)) es
told_last n ds os es = ap (told_count n) (sym (append_assoc ds os es)) ∙ told_count-append n (ds ++ os) es

-- a stream without messages brings no operation
pub no_operations : {Op State Edit : Type 0} → (t : Ghosts Op State Edit) (n k : ℕ) (before ahead : List Op) → Comes t n k before [] ahead → ahead ≡ []
no_operations t n k before [] comes = refl
no_operations t n k before (o ∷ os) comes = absurd comes

-- a count that a test accepts
pub count_of : {Op : Type 0} → (l : Link Op) (n : ℕ) → accepts_count l n ≡ true → IsCount l n
count_of l n test = let two = Rattle.std.proofs.lemmas.Bool.and_parts _ _ test in record { low = leb-true _ _ two.0; high = leb-true _ _ two.1 }

module _ (O : Operations) (L : AreLawful O) where
  -- a site that edits
  pub edit_counts : (l : LinkState O.Op) (a : sites.AttachedOf O) (op : O.Op) → Counts O l a → Counts O l (sites.with_edit O op a)
  edit_counts l a op c = record { short = c.short; told = c.told; sent = omega (arith, c.sent, length-append a.site.end.outgoing (op ∷ [])) }

  -- a link to which another site's edit is sent: its message bears the count
  pub sent_counts : (l : LinkState O.Op) (a : sites.AttachedOf O) (op : O.Op) → Counts O l a → Counts O (link_sent op l) a
  sent_counts l a op c = record {
    short = omega arith;
    told = omega (arith, told_last a.site.end.acknowledged a.down l.outbox (DownOp (next_message l.end op) ∷ []));
    sent = c.sent;
  }

  -- a link that hears its site's edit: it acknowledges if `answer_after` are unanswered
  pub heard_counts : (l : LinkState O.Op) (a : sites.AttachedOf O) (m : Msg O.Op) → Counts O l a → Counts O (link_heard O m l) (sites.one_taken O a)
  heard_counts l a m c = cases (owes (l.end.unanswered + 1)) refl
    where
      cases : (b : Bool) → owes (l.end.unanswered + 1) ≡ b
          → Counts O (record { site = l.site; end = if b then after_ack (end_after O l.end m) else end_after O l.end m; outbox = l.outbox ++ (if b then DownAck (l.end.received + 1) ∷ [] else []); named = l.named + O.insertions (O.t.edit_of m.op) }) (sites.one_taken O a)
      cases true due = record { short = omega arith; told = omega (arith, told_last a.site.end.acknowledged a.down l.outbox (DownAck (l.end.received + 1) ∷ [])); sent = c.sent }
      cases false paid = record {
        short = let few = leb-false answer_after (l.end.unanswered + 1) paid in omega (arith, few);
        told = omega (arith, told_last a.site.end.acknowledged a.down l.outbox [], c.told);
        sent = c.sent;
      }

  -- a ping that is answered
  pub ponged_counts : (l : LinkState O.Op) (a : sites.AttachedOf O) (k : ℕ) → Counts O l a → Counts O (link_ponged k l) (sites.one_taken O a)
  ponged_counts l a k c = record { short = c.short; told = omega (arith, told_last a.site.end.acknowledged a.down l.outbox (DownPong k ∷ []), c.told); sent = c.sent }

  -- an acknowledgement that is taken
  pub acked_counts : (l : LinkState O.Op) (a : sites.AttachedOf O) (n : ℕ) → Counts O l a → Counts O (link_acked n l) (sites.one_taken O a)
  acked_counts l a n c = record { short = c.short; told = c.told; sent = c.sent }

  -- a site that sends a ping
  pub pinged_counts : (l : LinkState O.Op) (a : sites.AttachedOf O) (k : ℕ) → Counts O l a → Counts O l (sites.pinged O k a)
  pinged_counts l a k c = record { short = c.short; told = c.told; sent = c.sent }

  -- an end that answers has acknowledged and generated what it had
  pub same_answered : (P : Link O.Op → Type 0) (e : Link O.Op) → P (after_ack e) → P e → P (answered e)
  same_answered P e paid unpaid = cases (owes e.unanswered)
    where
      cases : (b : Bool) → P (if b then after_ack e else e)
      cases true = paid
      cases false = unpaid

  -- a site that receives its oldest message
  pub handed_counts : (l : LinkState O.Op) (a : sites.AttachedOf O) (gone : ℕ) (d : Down O.Op) (ds : List (Down O.Op)) → a.down ++ l.outbox ≡ d ∷ (ds ++ drop gone l.outbox) → deliver_fault O d a.site ≡ None
      → Counts O l a → Counts O (link_fetched gone l) (sites.one_handed O d ds a)
  handed_counts l a gone (DownOp m) ds e none c = record {
    short = c.short;
    told = same_answered (λ x. told_count x.acknowledged (ds ++ drop gone l.outbox) + l.end.unanswered ≡ l.end.received) (end_after O a.site.end m) told told;
    sent = same_answered (λ x. a.site.made ≡ generated x) (end_after O a.site.end m) sent sent;
  }
    where
      told : told_count m.heard (ds ++ drop gone l.outbox) + l.end.unanswered ≡ l.end.received
      told = sym (ap (λ x. told_count a.site.end.acknowledged x + l.end.unanswered) e) ∙ c.told

      sent : a.site.made ≡ generated (end_after O a.site.end m)
      sent = c.sent ∙ sym (link_laws.generated-after_receive O.t a.site.end m.heard m.op
          (count_of a.site.end m.heard (all_hold (deliver_tests O a.site m ++ test (fits_shown O a.site m) BadOp ∷ []) none).1.1.0))
  handed_counts l a gone (DownAck n) ds e none c = record {
    short = c.short;
    told = sym (ap (λ x. told_count a.site.end.acknowledged x + l.end.unanswered) e) ∙ c.told;
    sent = c.sent ∙ sym (link_laws.generated-after_count O.t a.site.end n (count_of a.site.end n (all_hold (running_test a.site ∷ heard_tests a.site.end n) none).1.0));
  }
  handed_counts l a gone (DownPong k) ds e none c = record {
    short = c.short;
    told = sym (ap (λ x. told_count a.site.end.acknowledged x + l.end.unanswered) e) ∙ c.told;
    sent = c.sent;
  }
