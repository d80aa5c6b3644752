mod Cuts
mod FirstSentences
mod Sentences
mod Words
