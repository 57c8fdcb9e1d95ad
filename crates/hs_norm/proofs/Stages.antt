-- Steps of a builder, one after another.
use Rattle.std.proofs.Common.{◌≡◌, ◌∙◌}
use Rattle.hs_numbering.specs.declared.numbering.Numbering.{Numbering}
use Rattle.hs_numbering.specs.Numbering.{Builder}

module _ {A B C D E F : Type 0} (p1 : Builder A) (p2 : Builder B) (p3 : Builder C) (p4 : Builder D) (p5 : Builder E) (f : A → B → C → D → E → F) where
  abbrev after4 : A → B → C → D → Builder F
  after4 a b c d n = (f a b c d (p5 n).0, (p5 n).1)

  abbrev after3 : A → B → C → Builder F
  after3 a b c n = after4 a b c (p4 n).0 (p4 n).1

  abbrev after2 : A → B → Builder F
  after2 a b n = after3 a b (p3 n).0 (p3 n).1

  abbrev after1 : A → Builder F
  after1 a n = after2 a (p2 n).0 (p2 n).1

  -- what each step gave, put together
  pub steps : (n1 n2 n3 n4 n5 n6 : Numbering) (a : A) (b : B) (c : C) (d : D) (e : E) →
      (a, n2) ≡ p1 n1 → (b, n3) ≡ p2 n2 → (c, n4) ≡ p3 n3 → (d, n5) ≡ p4 n4 → (e, n6) ≡ p5 n5 → (f a b c d e, n6) ≡ after1 (p1 n1).0 (p1 n1).1
  steps n1 n2 n3 n4 n5 n6 a b c d e h1 h2 h3 h4 h5 =
      (λ j. (f a b c d (h5 j).0, (h5 j).1)) ∙ (λ j. after4 a b c (h4 j).0 (h4 j).1) ∙ (λ j. after3 a b (h3 j).0 (h3 j).1)
      ∙ (λ j. after2 a (h2 j).0 (h2 j).1) ∙ (λ j. after1 (h1 j).0 (h1 j).1)
